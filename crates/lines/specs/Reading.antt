-- What a line reader has still to read.
--     lines_left r    the lines of its text from its place on
use Rattle.std.specs.Prelude.{ℕ, List, drop}
use Rattle.lines.specs.Lines.{lines_of}
use Rattle.lines.specs.declared.line_reader.LineReader.{LineReader}

abbrev pub lines_left : LineReader → List (List ℕ)
lines_left r = lines_of (drop r.at r.text.now)
