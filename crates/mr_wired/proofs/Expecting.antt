-- Runs of networks: endpoints expect what comes.
use Rattle.std.proofs.Common.{◌≡◌, ℕ, zero, suc, ◌+◌, ◌≤◌, Bool, true, false, cond, List, [], ◌∷◌, Option, Some, refl, sym, ap, ◌∙◌, arith}
use Rattle.std.specs.Prelude.{slice_get}
use Rattle.std.proofs.lemmas.Bool.{false≢true, eqb-true}
use Rattle.ss_element.specs.Kind.{Kind}
use Rattle.ss_safe.specs.Laws.{Allowed}
use Rattle.ss_safe.specs.Kept.Found.{some_same, none_some, get_some, get_below}
use Rattle.ss_model.specs.Wiring.{Wiring}
use Rattle.mr_topo.specs.Routes.{Flow, Routes}
use Rattle.mr_router.specs.Network.{routes, hops}
use Rattle.ss_network.specs.declared.member.Member.{Member}
use Rattle.ss_network.specs.declared.member.Member.TheVariants as member
use Rattle.mr_order.specs.Ways.{Ways}
use Rattle.mr_order.specs.Runs.{NetworkOpens}
use Rattle.mr_order.specs.Expected.{Expecting, EndsThere}
use Rattle.mr_order.proofs.Expecting.{runs_expected}
use Rattle.mr_works.specs.Walks.{Node, Host, IsWired}
use Rattle.mr_works.specs.Expected.{EndsAtHost}
use Rattle.mr_works.proofs.Walking.{wired_paths_end}
use Rattle.mr_wired.specs.Wired.{node_of, is_host, host_from, host_in, home_in, IsMade}
use Rattle.mr_wired.specs.Running.{longest}
use Rattle.mr_wired.specs.Expecting.{NetworksExpectWhatComes}
use Rattle.mr_wired.proofs.Wiring.{networks_are_wired}

-- the first endpoint of a number is at no place before
host_least : (n : ℕ) (ms : List Member) (e : ℕ) → n ≤ host_from n ms e
host_least n [] e = omega arith
host_least n (m ∷ ms) e = by_test (is_host e m) (host_least (n + 1) ms e)
  where
    by_test : (b : Bool) → n + 1 ≤ host_from (n + 1) ms e → n ≤ cond b n (host_from (n + 1) ms e)
    by_test true h = omega arith
    by_test false h = omega (arith, h)

-- the member at the place of an endpoint is that endpoint
host_at : (n : ℕ) (ms : List Member) (e c : ℕ) (m : Member) → host_from n ms e ≡ n + c → slice_get ms c ≡ Some m → is_host e m ≡ true
host_at n [] e c m h g = absurd (none_some g)
host_at n (x ∷ ms) e c m h g = by_test (is_host e x) refl h (λ d. host_at (n + 1) ms e d m)
  where
    at_first : (d : ℕ) → slice_get (x ∷ ms) d ≡ Some m → n ≡ n + d → is_host e x ≡ true → is_host e m ≡ true
    at_first zero k s t = ap (is_host e) (sym (some_same k)) ∙ t
    at_first (suc d) k s t = absurd (omega (arith, s))

    behind : (d : ℕ) → slice_get (x ∷ ms) d ≡ Some m → host_from (n + 1) ms e ≡ n + d → ((d : ℕ) → host_from (n + 1) ms e ≡ n + 1 + d → slice_get ms d ≡ Some m → is_host e m ≡ true) → is_host e m ≡ true
    behind zero k s ih = let l = host_least (n + 1) ms e in absurd (omega (arith, l, s))
    behind (suc d) k s ih = ih d (omega (arith, s)) k

    by_test : (b : Bool) → is_host e x ≡ b → cond b n (host_from (n + 1) ms e) ≡ n + c → ((d : ℕ) → host_from (n + 1) ms e ≡ n + 1 + d → slice_get ms d ≡ Some m → is_host e m ≡ true) → is_host e m ≡ true
    by_test true t s ih = at_first c g s t
    by_test false t s ih = behind c g s ih

is_node : (m : Member) (e : ℕ) → is_host e m ≡ true → node_of m ≡ Some (Host e)
is_node (member.Router r) e h = absurd (false≢true h)
is_node (member.Endpoint a) e h = ap (λ k. Some (Host k)) (eqb-true a.id e h)
is_node member.Other e h = absurd (false≢true h)

-- flows end where their endpoint is, and there alone
pub ends_there : {S L P : Type 0} (ways : Ways S L P Flow) (t : Routes) (node : S → Option Node) (w : Wiring) (ms : List Member) (xs : List S) (expecting : Expecting S P Flow) → IsMade ways t node ms xs → IsWired ways t node w xs (host_in ms) (home_in w ms) →
    ((c : ℕ) (x : S) → slice_get xs c ≡ Some x → EndsAtHost expecting node x) → EndsThere expecting xs (λ g. host_in ms g.dst)
ends_there ways t node w ms xs expecting made wired ends = record {
  here = λ c x f g at.
      let within = get_below xs c x g in
      let count = made.count in
      let m = get_some ms c (omega (arith, within, count)) in
      (ends c x g).here f ((made.each c x m.0 g m.1).0 ∙ is_node m.0 f.dst (host_at 0 ms f.dst c m.0 (omega (arith, at)) m.1));
  only = λ c x f g h. (wired.hosts c f.dst x g ((ends c x g).only f h)).1;
}

pub networks_expect_what_comes : {S L P : Type 0} (kind : Kind S L) (allowed : Allowed S L) → NetworksExpectWhatComes P kind allowed
networks_expect_what_comes {S} {L} {P} kind allowed ways numbering expecting node w ms xs f keeps begins expects t n k early until within =
    let wired = networks_are_wired ways node w ms xs f begins.network begins.first begins.made in
    let net : NetworkOpens kind allowed ways w xs (longest f w ms) (λ g. host_in ms g.dst) = record {
      laws = keeps.laws;
      moves = keeps.moves;
      flows = keeps.flows;
      opens = begins.opens;
      back = begins.back;
      paths = wired_paths_end ways (routes f.topology) (hops f.topology) node w xs (host_in ms) (home_in w ms) begins.delivers wired;
      empty = begins.empty;
    } in
    let ends = ends_there ways (routes f.topology) node w ms xs expecting begins.made wired expects.ends in
    runs_expected kind allowed ways numbering expecting w xs (longest f w ms) (λ g. host_in ms g.dst) net keeps.numbers begins.zeros expects.kept expects.zeros ends t n k early until within
