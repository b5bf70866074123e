use Rattle.written_reading.proofs.edited.Leads.{Means}
use Rattle.written_reading.proofs.edited.TreeWrittenAs.{Laws}
use Rattle.written_reading.proofs.edited.WholeFiles.{drafts_have_rows}
use Rattle.written_reading.proofs.row_laws.drafts_have_rows.Goals as goal

pub returns : goal.returns
returns c =
    let means : Means = record {
      loosely = c.becomes_loosely.ensures;
      front = c.front_of_row.ensures;
      written = c.spaced_are_written.ensures;
      trivia = c.trivia_become.ensures;
      spaced = c.spaced_are_trivia.ensures;
      codes = c.code_tokens_become.ensures;
      htmls = c.html_tokens_become.ensures;
      nowdocs = c.nowdocs_become.ensures;
    } in
    let laws : Laws = record {
      means = means;
      join = c.becomes_join.ensures;
      rounds = c.rounds_become.ensures;
      braces = c.braces_become.ensures;
      squares = c.braces_are_squared.ensures;
      comes_in = c.rounds_come_in.ensures;
      floats = c.casts_become_float.ensures;
      nulls = c.casts_become_null.ensures;
      texts = c.texts_become.ensures;
    } in
    drafts_have_rows laws c.end_of_row.ensures c.tokens_are_tiles.ensures c.shaped_files_are_paired.ensures
