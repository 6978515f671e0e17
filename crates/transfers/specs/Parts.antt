-- The contracts' shapes for the parts of OPEN and LOAD.
use Rattle.std.specs.Prelude.{◌≡◌, List, ℕ, eqb}
use Rattle.recorder.specs.declared.word.Range.{Range}
use Rattle.recorder.specs.Calls.{emit_open}
use Rattle.recorder.specs.Word.{pick, next, choose}
use Rattle.recorder.specs.Recorder.{Recorder}
use Rattle.recorder.specs.Mem.{Mem, mem_r}
use Rattle.sheet.specs.declared.form.Sort.TheVariants.{Expr as exprSort}
use Rattle.sheet.specs.Form.{is_absent}
use Rattle.sheet.specs.Skip.{skip_node, skip_repeat}
use Rattle.sheet.specs.Tree.{opt_at, len_at}
use Rattle.sheet.specs.Args.{args_at}
use Rattle.transfers.specs.declared.loads.ReadByte.{ReadByte}
use Rattle.transfers.specs.declared.loads.ReadByte.TheVariants.{Value, Nothing, Plus, Bad}
use Rattle.rules.specs.Stmt.{ByteRead, fresh, signed, byte_so_far, no_byte, bad_bytes, load_node, open_node}

abbrev pub open_call : {S : Type 0} → Recorder S → ℕ → Range → S → S
open_call R mode r u = pick (eqb mode 0) u (emit_open (R.emit u) mode 1 r)

-- OPEN from its LEN on
pub record Opened (s t : List ℕ) (base left mode : ℕ) (r : Range) (at : ℕ) (m m' : Mem) (p : ℕ) : Type 0 where
  pub place : p ≡ choose (is_absent s at) (next s) (λ q. skip_node s left exprSort (next s q)) at
  pub result : m' ≡ open_node (mem_r t) t base r mode (opt_at s (len_at s left) at) m

-- a byte that is being read, as the code's value
abbrev pub read_of : ReadByte → ByteRead
read_of (Value n) = byte_so_far n
read_of Nothing = fresh
read_of Plus = signed
read_of Bad = no_byte

-- the notes for n arguments of LOAD from a place on
pub record BytesNoted (s t : List ℕ) (base left n at : ℕ) (m m' : Mem) (p : ℕ) : Type 0 where
  pub place : p ≡ skip_repeat s (skip_node s left exprSort) n at
  pub result : m' ≡ bad_bytes (mem_r t) t base (args_at s left n at) m

-- LOAD behind its first argument, n being left
pub record Loaded (s t : List ℕ) (base left n : ℕ) (r : Range) (at : ℕ) (m m' : Mem) (p : ℕ) : Type 0 where
  pub place : p ≡ skip_repeat s (skip_node s left exprSort) n at
  pub result : m' ≡ load_node (mem_r t) t base r (args_at s left n at) m
