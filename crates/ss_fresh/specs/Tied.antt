-- Wires whose lines go both ways, each from a port that its component has to one that the other has.
use Rattle.std.specs.Prelude.{◌≡◌, ℕ, ◌≤◌, List, slice_get, Some}
use Rattle.ss_model.specs.declared.LinkLine.{LinkLine}
use Rattle.ss_model.specs.Wiring.{Wiring}
use Rattle.ss_safe.specs.Safe.{IsPair}
use Rattle.ss_network.specs.declared.member.Member.{Member}
use Rattle.ss_network.specs.declared.member.Member.TheVariants as member
use Rattle.ss_network.specs.Joined.{HasPort}
use Rattle.ss_network.specs.Ranges.{IsFitRouter, IsFitEndpoint}
use Rattle.ss_network.specs.Network.{ports_of}

-- both ends are of the network, at ports that they have, or neither is
abbrev pub AreJoined : Member → ℕ → Member → ℕ → Type 0
AreJoined (member.Router r) p (member.Router s) q = HasPort (member.Router r) p × HasPort (member.Router s) q
AreJoined (member.Router r) p (member.Endpoint e) q = HasPort (member.Router r) p × HasPort (member.Endpoint e) q
AreJoined (member.Router r) p member.Other q = ⊥
AreJoined (member.Endpoint e) p (member.Router s) q = HasPort (member.Endpoint e) p × HasPort (member.Router s) q
AreJoined (member.Endpoint e) p (member.Endpoint f) q = HasPort (member.Endpoint e) p × HasPort (member.Endpoint f) q
AreJoined (member.Endpoint e) p member.Other q = ⊥
AreJoined member.Other p (member.Router s) q = ⊥
AreJoined member.Other p (member.Endpoint e) q = ⊥
AreJoined member.Other p member.Other q = Unit {0}

-- a line with its way back, and its ends
pub record IsTie (w : Wiring) (ms : List Member) (n : ℕ) (l : LinkLine) : Type 0 where
  pub way : ℕ
  pub pair : IsPair w n way l.sender l.out_port l.receiver l.in_port
  pub ends : (x y : Member) → slice_get ms l.sender ≡ Some x → slice_get ms l.receiver ≡ Some y → AreJoined x l.out_port y l.in_port

abbrev pub AllTied : Wiring → List Member → Type 0
AllTied w ms = (n : ℕ) (l : LinkLine) → slice_get w.links n ≡ Some l → IsTie w ms n l

-- what is asked for can be run, and no router has more ports than there may be
abbrev pub CanRun : Member → Type 0
CanRun (member.Router r) = IsFitRouter r × (ports_of r ≤ 256)
CanRun (member.Endpoint e) = IsFitEndpoint e
CanRun member.Other = Unit {0}

abbrev pub AllCanRun : List Member → Type 0
AllCanRun ms = (i : ℕ) (m : Member) → slice_get ms i ≡ Some m → CanRun m
