-- What rounding a delay's end does to the number, said of its value: "to the nearest whole step, an exact half going up".
use Rattle.std.specs.Prelude.{◌≡◌, ℕ, ◌+◌, ◌*◌, ◌^◌, ◌≤◌, ◌<◌, eqb}
use Rattle.recorder.specs.Word.{pick}
use Rattle.recorder.specs.Numbers.{bias, Value, IsNumber}

-- "The value is m × 2^(e−160), zero at e 0": how often 2^(−160) is in it, which is a whole number. 1 has this 2^160 times.
abbrev pub scaled : Value → ℕ
scaled v = pick (eqb v.e 0) 0 (v.m * 2 ^ v.e)

abbrev pub scaled_one : ℕ
scaled_one = 2 ^ bias

-- v is the whole number nearest to x, halves up, and again a number: x is from v − ½ up to, but not with, v + ½. No other number is
-- (`nearest_alone`).
pub record Nearest (x v : Value) : Type 0 where
  pub number : IsNumber v
  pub whole : ℕ
  pub is_whole : scaled v ≡ whole * scaled_one
  pub not_below : 2 * scaled v ≤ 2 * scaled x + scaled_one
  pub below : 2 * scaled x < 2 * scaled v + scaled_one
