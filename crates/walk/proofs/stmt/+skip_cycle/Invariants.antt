use Rattle.std.proofs.Common.{◌≡◌, ◌+◌, ◌-◌, ◌*◌, ◌≤◌, length, drop}
use Rattle.sheet.specs.Skip.{skip_pair, skip_repeat, skip_fields, skip_node}
use Rattle.walk.proofs.stmt.+skip_cycle.Given as goal

abbrev pub decreases-skip_element : goal.decreases-skip_element
decreases-skip_element l = 8 * (length l.sheet.now - l.at) + 1

abbrev pub decreases-skip_field : goal.decreases-skip_field
decreases-skip_field l = 8 * (length l.sheet.now - l.at) + 5

abbrev pub decreases-skip_fields : goal.decreases-skip_fields
decreases-skip_fields l = 8 * (length l.sheet.now - l.at) + 6

abbrev pub decreases-skip_item : goal.decreases-skip_item
decreases-skip_item l = 8 * (length l.sheet.now - l.at) + 2

abbrev pub decreases-skip_list : goal.decreases-skip_list
decreases-skip_list l = 8 * (length l.sheet.now - l.at) + 4

abbrev pub decreases-skip_node : goal.decreases-skip_node
decreases-skip_node l = 8 * (length l.sheet.now - l.at)

abbrev pub decreases-skip_pair : goal.decreases-skip_pair
decreases-skip_pair l = 8 * (length l.sheet.now - l.at) + 3

abbrev pub decreases-skip_source : goal.decreases-skip_source
decreases-skip_source l = 8 * (length l.sheet.now - l.at) + 1

abbrev pub invariant-skip_fields-loop-f : goal.invariant-skip_fields-loop-f
invariant-skip_fields-loop-f l = record {
  later : l.at ≤ l.p;
  same : skip_fields l.sheet (skip_node l.sheet l.left) (drop l.f-index l.fields) l.p ≡ skip_fields l.sheet (skip_node l.sheet l.left) l.fields l.at;
}

abbrev pub invariant-skip_list-loop : goal.invariant-skip_list-loop
invariant-skip_list-loop l = record {
  later : l.initial.p ≤ l.p;
  same : skip_repeat l.sheet (skip_pair l.sheet (skip_node l.sheet l.left) l.f.first l.f.second) (l.end - l.counter) l.p ≡ skip_repeat l.sheet (skip_pair l.sheet (skip_node l.sheet l.left) l.f.first l.f.second) l.end l.initial.p;
}
