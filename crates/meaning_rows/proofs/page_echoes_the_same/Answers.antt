use Rattle.meaning_rows.proofs.PageRow.{page}
use Rattle.meaning_rows.proofs.page_echoes_the_same.Goals as goal

pub returns : goal.returns
returns c = page
