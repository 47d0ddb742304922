-- The text of what is printed for a line.
use Rattle.std.specs.Prelude.{ℕ, List, codes}
use Rattle.lines.specs.Printed.{left_line, refusal_line}
use Rattle.lines.specs.declared.printing.Said.{Said}
use Rattle.lines.specs.declared.printing.Said.TheVariants.{Left, NoCut, Refused}

abbrev pub said_text : Said → List ℕ
said_text (Refused line number place) = refusal_line line number place
said_text (Left k) = left_line k
said_text NoCut = codes "none\n"
