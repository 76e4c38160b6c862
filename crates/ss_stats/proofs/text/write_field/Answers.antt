use Rattle.ss_stats.specs.Text.{row}
use Rattle.ss_stats.proofs.text.write_field.Goals as goal

pub returns-clause-text : goal.returns-clause-text
unfolding row
returns-clause-text c = rw (c.as_bytes-value.ensures.value, c.format.ensures.text) at c.write_cells.ensures.text
