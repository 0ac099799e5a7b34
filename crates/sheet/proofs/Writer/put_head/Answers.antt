-- `put_head` writes what stands before the zones.
-- Rests on what its calls ensure, part after part.
use Rattle.sheet.specs.Laws.{put_sheet_head}
use Rattle.sheet.proofs.Writer.put_head.Goals as goal

pub returns-clause-sheet : goal.returns-clause-sheet
returns-clause-sheet c = cc (put_sheet_head _ _ _ _)
