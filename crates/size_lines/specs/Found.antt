-- What the projections of an answer are where nothing was found. Definitions only.
use Rattle.std.specs.Prelude.{ℕ}
use Rattle.size_lines.specs.declared.Numeral.{Numeral}
use Rattle.size_lines.specs.declared.LineSize.{LineSize}

-- no size: its numbers are 0
abbrev pub no_size : LineSize
no_size = record { n = 0; g = 0; r = 0 }

-- no number from place p on: it ends where it would begin
abbrev pub no_number : ℕ → Numeral
no_number p = record { value = 0; end = p }
