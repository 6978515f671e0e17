use Rattle.std.proofs.Common.{◌≡◌, ◌+◌, ◌-◌, ◌∙◌, sym, arith}
use Rattle.recorder.proofs.Laws.{by_tag, tag_of_name, descent_step, descent_here, descent_none, descent_past, descent_end, descent_all}
use Rattle.recorder.proofs.codegen.CodeGen.descent_to.Goals.{then-k-at-via-then-k-at, then-k-at-via-else-k-at+then-end-k}
use Rattle.recorder.proofs.codegen.CodeGen.descent_to.Goals as goal

pub returns-then-named_at : goal.returns-then-named_at
returns-then-named_at c =
    let tag = tag_of_name c.args.text.now _ c.args.name.now.start c.args.name.now.len c.args.name.now.sigil _ c.name_hash-hash.ensures c.tag_of-tag.ensures in
    let here = by_tag c.args.text.now c.args.self.now.book.now c.loop.at _ c.args.name.now.start c.args.name.now.len c.args.name.now.sigil _ tag c.named_at.ensures in
    (descent_all _ _ _ _ _ _ _ _ _ _ c.known-end.ensures c.unwrap_or-at.ensures c.name_hash-hash.ensures (descent_here _ _ _ _ _ _ _ _ _ _ _ (omega (arith, c.loop-test.true)) c.loop.invariant here c.if-named_at.true), sym c.if-named_at.true ∙ here, tag)

pub returns-then-k-at : goal.returns-then-k-at
returns-then-k-at c =
    let tag = tag_of_name c.args.text.now _ c.args.name.now.start c.args.name.now.len c.args.name.now.sigil _ c.name_hash-hash.ensures c.tag_of-tag.ensures in
    let here = by_tag c.args.text.now c.args.self.now.book.now c.loop.at _ c.args.name.now.start c.args.name.now.len c.args.name.now.sigil _ tag c.named_at.ensures in (
      descent_all _ _ _ _ _ _ _ _ _ _ c.known-end.ensures c.unwrap_or-at.ensures c.name_hash-hash.ensures (elim c.then-k-at.branch [
        | then-k-at-via-then-k-at w ↦ descent_none _ _ _ _ _ _ _ _ _ _ _ _ (omega (arith, c.loop-test.true)) c.loop.invariant here c.if-named_at.false c.child_of-k.ensures w.if-k-at.true
        | then-k-at-via-else-k-at+then-end-k w ↦ descent_past _ _ _ _ _ _ _ _ _ _ _ _ (omega (arith, c.loop-test.true)) c.loop.invariant here c.if-named_at.false c.child_of-k.ensures w.if-k-at.false w.if-end-k.true
      ]),
      sym c.if-named_at.false ∙ here,
      tag,
    )

pub loop-preserved : goal.loop-preserved
loop-preserved c =
    let tag = tag_of_name c.args.text.now _ c.args.name.now.start c.args.name.now.len c.args.name.now.sigil _ c.name_hash-hash.ensures c.tag_of-tag.ensures in
    let here = by_tag c.args.text.now c.args.self.now.book.now c.loop.at _ c.args.name.now.start c.args.name.now.len c.args.name.now.sigil _ tag c.named_at.ensures in
    let e : c.known-end.result - (c.loop.counter + 1) ≡ c.known-end.result - c.loop.counter - 1 = omega arith in
    rw e (descent_step _ _ _ _ _ _ _ _ _ _ _ _ _ (omega (arith, c.loop-test.true)) c.loop.invariant here c.if-named_at.false c.child_of-k.ensures c.if-k-at.false c.if-end-k.false c.next_bits-bits.ensures)

pub returns : goal.returns
returns c =
    let tag = tag_of_name c.args.text.now _ c.args.name.now.start c.args.name.now.len c.args.name.now.sigil _ c.name_hash-hash.ensures c.tag_of-tag.ensures in
    (descent_all _ _ _ _ _ _ _ _ _ _ c.known-end.ensures c.unwrap_or-at.ensures c.name_hash-hash.ensures (descent_end _ _ _ _ _ _ _ _ _ _ (omega (arith, c.loop-test.false)) c.loop.invariant), by_tag c.args.text.now c.args.self.now.book.now c.loop.at _ c.args.name.now.start c.args.name.now.len c.args.name.now.sigil _ tag c.named_at-2.ensures, tag)
