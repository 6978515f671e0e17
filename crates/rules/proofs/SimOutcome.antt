-- The memory's run, from zeros to closed up, brings what the rules' run does, whatever the lengths of the lent memory.
use Rattle.std.proofs.Common.{◌≡◌, ℕ, ◌+◌, ◌/◌, ◌<◌, Bool, true, false, ltb, leb, List, length, replicate, sym, refl, ◌∙◌, arith, le-ltb, lt-ltb, le-leb, leb-false}
use borrow.Author.Tests.{lt-leb}
use native.Mathlib.Decide.{dec_lt}
use Rattle.recorder.specs.Word.{pick, either}
use Rattle.recorder.specs.Ideal.{Ideal}
use Rattle.recorder.specs.Layout.{note_size, entry_size, most_records}
use Rattle.recorder.specs.Mem.{Mem, mem, mem_r, records_in, list_full, notes_full, book_full, nothing}
use Rattle.simulation.specs.Held.{Held}
use Rattle.simulation.proofs.Sim.{held_count, held_full, Room, records_held}
use Rattle.simulation.proofs.Clean.{Done}
use Rattle.simulation.proofs.Memory.{sim_start, memory_simulates}
use Rattle.sheet.specs.Tree.{program_at}
use Rattle.rules.specs.Program.{Lines, first_line, compile_lines, close_up}
use Rattle.rules.specs.Outcome.{Outcome, Lengths, refused, accepted, compiled, finished, sized}
use Rattle.rules.specs.MemAnswer.{mem_sized}
use Rattle.rules.proofs.BoolLaws.{neither}
use Rattle.rules.proofs.SimProgram.{sim_first, sim_lines, sim_program}
use Rattle.rules.proofs.ProgramPiles.{closed_length}

-- the memory's lines, from zeros
abbrev pub mem_lines : List ℕ → List ℕ → Lengths → Lines Mem
mem_lines s t L =
    compile_lines (mem_r t) t (program_at s)
    (first_line (mem_r t) t (mem (replicate L.list 0) (replicate L.notes 0) (replicate L.book 0) nothing))

-- from the memory after the lines (m₁) and closed up (m₂): 9 is known before closing up, which adds one record, End
abbrev pub mem_outcome : Lengths → Mem → Mem → Outcome
mem_outcome L m₁ m₂ = pick (either (list_full m₁.st) (leb (most_records L.list) (records_in m₁.st))) (refused 9 0 L) (mem_sized L m₂)

-- one more does not fit: by the count and the flag as by the rules
held_one_more : {cap n count : ℕ} {full : Bool} (k : ℕ) → Held cap n count full → k ≡ n + 1 → either full (leb cap count) ≡ ltb cap k
held_one_more {cap} {full = true} k h e = sym (lt-ltb cap k (omega (arith, held_full h refl)))
held_one_more {cap} {count = count} {full = false} k h e = go (dec_lt count cap)
  where
    go : Dec (count < cap) → leb cap count ≡ ltb cap k
    go (yes d) = lt-leb cap count d ∙ sym (le-ltb cap k (omega (arith, e, held_count h refl)))
    go (no d) = le-leb cap count (omega arith) ∙ sym (lt-ltb cap k (omega (arith, e, held_count h refl)))

-- from the count of records before closing up, which adds one, and the memory closed up where that fits
held_sized : (L : Lengths) (i : Ideal) (n : ℕ) (m₁ m₂ : Mem) → Held (most_records L.list) n (records_in m₁.st) (list_full m₁.st) → length i.records ≡ n + 1
    → (Room L.list m₁ → Done L.list L.notes L.book i m₂) → mem_outcome L m₁ m₂ ≡ sized i L
unfolding sized
held_sized L i n m₁ m₂ h e d = go (either (list_full m₁.st) (leb (most_records L.list) (records_in m₁.st))) refl
  where
    fits : Done L.list L.notes L.book i m₂ → (a b : Bool) → notes_full m₂.st ≡ a → book_full m₂.st ≡ b
        → mem_sized L m₂
        ≡ pick (ltb (L.notes / note_size) (length i.notes)) (refused 10 0 L) (pick (ltb (L.book / entry_size) (length i.entries)) (refused 11 0 L) (accepted i L))
    fits q true b x y = rw (x, sym q.noted.held.flag ∙ x) refl
    fits q false true x y = rw (x, y, sym q.noted.held.flag ∙ x, sym q.booked.held.flag ∙ y) refl
    fits q false false x y = rw (x, y, sym q.noted.held.flag ∙ x, sym q.booked.held.flag ∙ y)
        (rw (q.count, held_count q.noted.held x, held_count q.booked.held y, q.list_is y, q.noted.same x, q.booked.same y) refl)

    go : (b : Bool) → either (list_full m₁.st) (leb (most_records L.list) (records_in m₁.st)) ≡ b → mem_outcome L m₁ m₂ ≡ sized i L
    go true x = rw (x, sym (held_one_more (length i.records) h e) ∙ x) refl
    go false x =
        let p = neither (list_full m₁.st) (leb (most_records L.list) (records_in m₁.st)) x in
        rw (x, sym (held_one_more (length i.records) h e) ∙ x)
        (fits (d (p.0, leb-false (most_records L.list) (records_in m₁.st) p.1)) (notes_full m₂.st) (book_full m₂.st) refl refl)

-- the memory's run answers what the rules say
pub held_outcome : (s t : List ℕ) (L : Lengths) → mem_outcome L (mem_lines s t L).state (close_up (mem_r t) (mem_lines s t L)) ≡ sized (finished s t) L
unfolding compiled finished
held_outcome s t L =
    let σ = memory_simulates L.list L.notes L.book t in
    let m = sim_start t L.list L.notes L.book in
    held_sized L (finished s t) (length (compiled s t).state.records) (mem_lines s t L).state (close_up (mem_r t) (mem_lines s t L))
    (records_held (sim_lines σ t (program_at s) (sim_first σ t m)).follows.sim) (closed_length t (compiled s t)) (sim_program σ t (program_at s) m)

-- the buffers of a memory are as long as the lent ones
pub record Long (L : Lengths) (m : Mem) : Type 0 where
  pub list : length m.list ≡ L.list
  pub notes : length m.notes ≡ L.notes
  pub book : length m.book ≡ L.book

pub lines_long : (s t : List ℕ) (L : Lengths) → Long L (mem_lines s t L).state
lines_long s t L =
    let σ = memory_simulates L.list L.notes L.book t in
    let m = (sim_lines σ t (program_at s) (sim_first σ t (sim_start t L.list L.notes L.book))).follows.sim in
    record { list = m.listed.long; notes = m.noted.long; book = m.booked.long }

pub closed_long : (s t : List ℕ) (L : Lengths) → Room L.list (mem_lines s t L).state → Long L (close_up (mem_r t) (mem_lines s t L))
closed_long s t L r =
    let σ = memory_simulates L.list L.notes L.book t in
    let d = sim_program σ t (program_at s) (sim_start t L.list L.notes L.book) r in
    record { list = d.long; notes = d.noted.long; book = d.booked.long }
