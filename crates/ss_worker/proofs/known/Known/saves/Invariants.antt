use Rattle.std.proofs.Common.{◌≡◌, ◌≤◌, length}
use Rattle.ss_window.specs.Cuts.{IsTime}
use Rattle.ss_worker.specs.Saves.{IsKnownSave}
use Rattle.ss_worker.proofs.Dues.{AreBelow}
use Rattle.ss_worker.proofs.known.Known.saves.Given as goal

abbrev pub invariant-loop : goal.invariant-loop
invariant-loop l = record {
  count : length l.times.items ≡ l.counter;
  from : l.fn.from ≤ l.at;
  early : IsTime l.at;
  found : AreBelow (IsKnownSave l.cuts l.self l.fn.from) l.at l.times.items;
}
