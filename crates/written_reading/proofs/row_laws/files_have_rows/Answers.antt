use Rattle.written_reading.proofs.edited.Composed.{Known, files_have_rows}
use Rattle.written_reading.proofs.row_laws.files_have_rows.Goals as goal

pub returns : goal.returns
returns c =
    let known : Known = record {
      texts = c.parts_have_texts.ensures;
      within = c.names_are_within.ensures;
      stay = c.names_of_files_stay.ensures;
      apart = c.names_are_apart.ensures;
      safe = c.texts_are_safe.ensures;
    } in
    files_have_rows c.named_keeps.ensures c.names_are_put.ensures c.rows_are_common.ensures known c.drafts_have_rows.ensures
