use Rattle.std.proofs.Common.{◌≡◌, drop, vec_items}
use Rattle.lines.specs.Numbers.{behind, scanned}
use Rattle.lines.specs.declared.scan.Scan.TheVariants.{Between}
use Rattle.lines.proofs.numbers.read_numbers.Given as goal

abbrev pub invariant-loop-b : goal.invariant-loop-b
invariant-loop-b l = behind (vec_items l.numbers) (scanned (drop l.b-index l.bytes) l.scan) ≡ scanned l.bytes Between
