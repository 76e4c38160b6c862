use Rattle.ss_stats.specs.Text.{head}
use Rattle.ss_stats.proofs.text.head_text.Goals as goal

pub returns : goal.returns
unfolding head
returns c =
    let cells = rw (c.as_slice.ensures, c.as_slice-2.ensures, c.as_slice-3.ensures, c.as_slice-4.ensures, c.new_sheet-sheet.ensures.empty) at c.in_ok-write_record.ensures.text in
    rw cells at c.into_text.ensures
