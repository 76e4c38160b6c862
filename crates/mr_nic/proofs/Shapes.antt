-- What keeps an endpoint's networks and statistics in their places.
use Rattle.std.proofs.Common.{◌≡◌, ℕ, ◌<◌, length, Option, refl, sym, ◌∙◌, subst}
use Rattle.std.specs.Prelude.{IfSome}
use Rattle.mr_nic.specs.declared.nic.Places.{Places}
use Rattle.mr_nic.specs.declared.nic.Endpoint.{Endpoint}
use Rattle.mr_nic.specs.Endpoint.{PlacesWithin, SameShape}

pub shape_same : (n : Endpoint) → SameShape n n
shape_same n = record { networks = refl; places = refl; stats = refl }

pub shape_through : (n m o : Endpoint) → SameShape n m → SameShape m o → SameShape n o
shape_through n m o h k = record { networks = k.networks ∙ h.networks; places = k.places ∙ h.places; stats = k.stats ∙ h.stats }

pub places_same : (n m : Endpoint) → SameShape n m → PlacesWithin n.places (length n.stats) → PlacesWithin m.places (length m.stats)
places_same n m h w = subst (PlacesWithin m.places) (sym h.stats) (subst (λ p. PlacesWithin p (length n.stats)) (sym h.places) w)
