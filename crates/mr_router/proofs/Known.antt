-- Where no way is kept, each that is kept is right.
use Rattle.std.proofs.Common.{◌≡◌, ℕ, List, Option, None, sym, subst}
use Rattle.std.specs.Prelude.{replicate}
use Rattle.std.specs.Option.{ForSome}
use Rattle.std.proofs.lemmas.List.Elements.{All-replicate}
use Rattle.mr_router.specs.declared.settings.RouterSettings.{RouterSettings}
use Rattle.mr_router.specs.declared.ways.Way.{Way}
use Rattle.mr_router.specs.Ways.{IsWay, AreWays}

pub none_kept : (set : RouterSettings) (n : ℕ) (ways : List (Option Way)) → ways ≡ replicate n None → AreWays set ways
none_kept set n ways e = subst (AreWays set) (sym e) (All-replicate (λ w. ForSome w (IsWay set)) n None (λ w is. absurd cc))
