use Rattle.std.proofs.Common.{◌≡◌, ◌++◌, take}
use Rattle.std.specs.List.{flat_map}
use Rattle.ss_wire.specs.Form.{big_bytes}
use Rattle.ss_element.proofs.statistics.save_bins.Given as goal

abbrev pub invariant-loop-i : goal.invariant-loop-i
invariant-loop-i l = l.out ≡ l.initial.out ++ flat_map (big_bytes 8) (take l.i l.histogram.bins)
