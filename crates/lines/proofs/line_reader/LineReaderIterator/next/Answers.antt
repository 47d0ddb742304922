use Rattle.lines.proofs.Splits.{next_line}
use Rattle.lines.proofs.line_reader.LineReaderIterator.next.Goals as goal

pub returns-clause-steps : goal.returns-clause-steps
returns-clause-steps c = next_line c.args.self.now.text.now c.args.self.now.at c.line_len-len.result c.if-start-text.false c.line_len-len.ensures.first
