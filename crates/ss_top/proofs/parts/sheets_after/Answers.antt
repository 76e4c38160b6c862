use Rattle.std.proofs.Common.{refl}
use Rattle.ss_top.proofs.Divided.{sheets_unreported, sheets_reported}
use Rattle.ss_top.proofs.parts.sheets_after.Goals as goal

pub returns-in-None : goal.returns-in-None
returns-in-None c =
    sheets_unreported c.args.run.now c.args.options.now c.args.windows c.requires.windows c.in_ok-sheets.sheets.items c.in_ok-sheets.sheets.items (c.in_ok-sheets.ensures c.requires.windows) c.in-None.is refl

pub returns-in_ok-add_sheet-in-Some : goal.returns-in_ok-add_sheet-in-Some
returns-in_ok-add_sheet-in-Some c =
    sheets_reported c.args.run.now c.args.options.now c.args.windows c.requires.windows c.in_ok-sheets.sheets.items c.add_sheet.new.sheets.items (c.in_ok-sheets.ensures c.requires.windows)
    c.in-Some.name c.in_ok-text-in-Some.text.items c.in-Some.is c.in_ok-text-in-Some.ensures c.in_ok-add_sheet-in-Some.ensures
