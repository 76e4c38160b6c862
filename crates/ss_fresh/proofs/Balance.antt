-- A network begins in balance.
use Rattle.std.proofs.Common.{◌≡◌, ℕ, ◌<◌, List, Bool, true, Option, Some, sym, ap, ◌∙◌, subst, arith}
use Rattle.std.specs.Prelude.{slice_get, length, nat_lt, if◌then◌else◌}
use Rattle.std.specs.Option.{option_map}
use Rattle.std.proofs.lemmas.Bool.Decides.{nat_tests}
use Rattle.ss_model.specs.Wiring.{Wiring, of_link, of_own, inner_at}
use Rattle.ss_safe.specs.Laws.{Meters}
use Rattle.ss_safe.specs.Safe.{IsLine, IsPair, Paired, HasCredits}
use Rattle.ss_safe.specs.Kept.Found.{some_same, get_below}
use Rattle.mr_router.specs.Fresh.{room_of}
use Rattle.ss_network.specs.declared.member.Member.{Member}
use Rattle.ss_network.specs.declared.member.Member.TheVariants as member
use Rattle.ss_network.specs.Network.{end_by, end_of, channels_of, input_of, credits_by, credits_of}
use Rattle.ss_network.specs.Joined.{IsNetwork, HasPort, Joins}
use Rattle.ss_network.proofs.Joined.{same_channels}
use Rattle.ss_fresh.specs.Tied.{AreJoined, AllTied}
use Rattle.ss_fresh.specs.Begins.{IsRead, AreRead}

-- ---- where lines lead

pub end_of_line : (w : Wiring) (l a p b q : ℕ) → IsLine w l a p b q → end_of w a p ≡ Some (b, q)
end_of_line w l a p b q i =
    let below : nat_lt l (length w.links) ≡ true = (let h = get_below w.links l i.link i.is in grind (arith, nat_tests, h)) in
    ap (end_by w) i.first
    ∙ ap (λ (t : Bool). if t then of_link (slice_get w.links l) else of_own (inner_at w l)) below
    ∙ ap of_link i.is
    ∙ ap (λ (r : ℕ). Some (r, i.link.in_port)) i.receiver
    ∙ ap (λ (s : ℕ). Some (b, s)) i.in_port

-- what the queues at the other end of a line hold
pub room_behind : (w : Wiring) (ms : List Member) (l a p b q : ℕ) (y : Member) → IsLine w l a p b q → slice_get ms b ≡ Some y → room_of (credits_of w ms a p) ≡ input_of y
room_behind w ms l a p b q y i there = ap (λ (o : Option (ℕ × ℕ)). room_of (credits_by ms o)) (end_of_line w l a p b q i) ∙ ap (λ (o : Option Member). room_of (option_map input_of o)) there

joined_same : (x y : Member) (a b c d : ℕ) → a ≡ b → c ≡ d → AreJoined x a y c → AreJoined x b y d
joined_same x y a b c d e f h = subst (λ (n : ℕ). AreJoined x n y d) e (subst (λ (n : ℕ). AreJoined x a y n) f h)

module _ (w : Wiring) (ms : List Member) (tied : AllTied w ms) where
  pub ends_of_line : (l a p b q : ℕ) (x y : Member) → IsLine w l a p b q → slice_get ms a ≡ Some x → slice_get ms b ≡ Some y → AreJoined x p y q
  ends_of_line l a p b q x y i here there =
      let t = tied l i.link i.is in
      joined_same x y i.link.out_port p i.link.in_port q i.out_port i.in_port (t.ends x y (ap (slice_get ms) i.sender ∙ here) (ap (slice_get ms) i.receiver ∙ there))

-- both ends have their ports, where one of them has channels
pub have_ports : (x y : Member) (p q ch : ℕ) → AreJoined x p y q → ch < channels_of y q → HasPort x p × HasPort y q
have_ports (member.Router r) (member.Router s) p q ch h l = h
have_ports (member.Router r) (member.Endpoint e) p q ch h l = h
have_ports (member.Router r) member.Other p q ch h l = absurd h
have_ports (member.Endpoint e) (member.Router s) p q ch h l = h
have_ports (member.Endpoint e) (member.Endpoint f) p q ch h l = h
have_ports (member.Endpoint e) member.Other p q ch h l = absurd h
have_ports member.Other (member.Router s) p q ch h l = absurd h
have_ports member.Other (member.Endpoint e) p q ch h l = absurd h
have_ports member.Other member.Other p q ch h l = absurd (omega (arith, l))

pub joins_of : (w : Wiring) (ms : List Member) (l k a p b q ch : ℕ) (x y : Member) → AllTied w ms → IsPair w l k a p b q → slice_get ms a ≡ Some x → slice_get ms b ≡ Some y → ch < channels_of y q → Joins w ms a p b q x y
joins_of w ms l k a p b q ch x y tied pair here there some =
    let h = have_ports x y p q ch (ends_of_line w ms tied l a p b q x y pair.ahead here there) some in
    record { here = here; there = there; out = h.0; into = h.1; ahead = end_of_line w l a p b q pair.ahead; back = end_of_line w k b q a p pair.back }

-- ---- the balance

module _ {S L : Type 0} (meters : Meters S L) (w : Wiring) (ms : List Member) (xs : List S) (net : IsNetwork w ms) (tied : AllTied w ms) (read : (c : ℕ) (x : S) → slice_get xs c ≡ Some x → AreRead meters w ms c x) where
  same_there : (c : ℕ) (x : S) (m : Member) (h : slice_get xs c ≡ Some x) → slice_get ms c ≡ Some m → IsRead meters w ms c m x
  same_there c x m h g = let r = read c x h in subst (λ (n : Member). IsRead meters w ms c n x) (some_same (sym r.there ∙ g)) r.read

  pub paired : Paired meters w xs
  paired l ch link y is gy some =
      let ry = read link.receiver y gy in
      let way = (tied l link is).way in
      let pair = (tied l link is).pair in
      let inside : ch < channels_of ry.part link.in_port = subst (λ (n : ℕ). ch < n) (ry.read.channels link.in_port) some in
      record {
        way = way;
        pair = pair;
        same = λ x gx.
            let rx = read link.sender x gx in
            let j = joins_of w ms l way link.sender link.out_port link.receiver link.in_port ch rx.part ry.part tied pair rx.there ry.there inside in
            rx.read.channels link.out_port ∙ same_channels w ms net _ _ _ _ rx.part ry.part j ∙ sym (ry.read.channels link.in_port);
        limit = λ x gx.
            let rx = read link.sender x gx in
            let j = joins_of w ms l way link.sender link.out_port link.receiver link.in_port ch rx.part ry.part tied pair rx.there ry.there inside in
            let there : ch < channels_of rx.part link.out_port = subst (λ (n : ℕ). ch < n) (sym (same_channels w ms net _ _ _ _ rx.part ry.part j)) inside in
            rx.read.limit link.out_port ch there ∙ room_behind w ms l link.sender link.out_port link.receiver link.in_port ry.part pair.ahead ry.there ∙ sym (ry.read.capacity link.in_port ch inside);
      }

  pub credited : HasCredits meters w xs
  credited l k a p b q ch x y pair gx gy in_x in_y =
      let rx = read a x gx in
      let ry = read b y gy in
      let there : ch < channels_of rx.part p = subst (λ (n : ℕ). ch < n) (rx.read.channels p) in_x in
      let inside : ch < channels_of ry.part q = subst (λ (n : ℕ). ch < n) (ry.read.channels q) in_y in
      (rx.read.credits p ch there ∙ room_behind w ms l a p b q ry.part pair.ahead ry.there ∙ sym (ry.read.capacity q ch inside), ry.read.queued q ch inside)
