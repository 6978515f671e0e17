use native.Mathlib.Omega.{arith}
use lib.ListN.{length-set}
use Rattle.closing.proofs.ClosingLaws.{unlink_name, unlink_other, unlink_none}
use Rattle.closing.proofs.closing.unlink_at.Goals as goal

pub bounds-book-i-then-kind_at-gt127 : goal.bounds-book-i-then-kind_at-gt127
bounds-book-i-then-kind_at-gt127 c = simp length-set (omega arith)

pub returns-then-kind_at-gt127 : goal.returns-then-kind_at-gt127
returns-then-kind_at-gt127 c = unlink_name c.args.book.now c.args.k _ _ _ _ _ c.if-k-book.true c.kind_at.ensures c.if-kind_at-gt127.true c.word_at.ensures c.word_of-head.ensures c.word_at-then-kind_at-gt127.ensures c.sigil_of-last.ensures

pub returns-else-kind_at-gt127 : goal.returns-else-kind_at-gt127
returns-else-kind_at-gt127 c = unlink_other c.args.book.now c.args.k _ c.kind_at.ensures c.if-kind_at-gt127.false

pub returns-else-k-book : goal.returns-else-k-book
returns-else-k-book c = unlink_none c.args.book.now c.args.k c.if-k-book.false
