use Rattle.std.proofs.Common.{◌≤◌, arith, rules}
use Rattle.std.proofs.Math.Nat.{sub-add-eq}
use Rattle.sheet.specs.Skip.{skip_pair, skip_node}
use Rattle.walk.proofs.Skips.{pair_skips, field_skips, node_skips, repeat_step, fields_step}
use Rattle.walk.proofs.stmt.+skip_cycle.Goals as goal

pub skip_fields-loop-f-preserved : goal.skip_fields-loop-f-preserved
skip_fields-loop-f-preserved t c =
    let h : c.loop-f.p ≤ c.skip_field-p.result = rw c.skip_field-p.ensures (field_skips c.args.sheet.now (skip_node c.args.sheet.now c.args.left) (node_skips c.args.sheet.now c.args.left) _ c.loop-f.p).later in
    record {
      later = omega (arith, c.loop-f.invariant.later, h);
      same = fields_step c.args.sheet.now (skip_node c.args.sheet.now c.args.left) c.args.fields.now c.loop-f.f-index _ _ _ _ (omega (arith, c.loop-f-test.true)) (search rules) c.skip_field-p.ensures c.loop-f.invariant.same;
    }

pub skip_list-loop-preserved : goal.skip_list-loop-preserved
skip_list-loop-preserved t c =
    let h = pair_skips c.args.sheet.now (skip_node c.args.sheet.now c.args.left) (node_skips c.args.sheet.now c.args.left) c.args.f.first c.args.f.second c.loop.p in
    record {
      later = omega (arith, c.loop.invariant.later, c.skip_pair-p.ensures, h.later);
      same = rw sub-add-eq (repeat_step c.args.sheet.now (skip_pair c.args.sheet.now (skip_node c.args.sheet.now c.args.left) c.args.f.first c.args.f.second) _ _ _ _ (omega (arith, c.loop-test.true)) c.skip_pair-p.ensures c.loop.invariant.same);
    }
