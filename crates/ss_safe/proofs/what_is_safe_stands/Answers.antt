use Rattle.ss_safe.proofs.what_is_safe_stands.Goals as goal

pub returns : goal.returns
returns g c w now s safe = record { wires = safe.wires; agrees = safe.agrees; named = safe.named; holds = safe.holds; paired = safe.paired }
