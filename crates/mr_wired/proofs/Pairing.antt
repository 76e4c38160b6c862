-- Lines that come in pairs lead back.
use Rattle.std.proofs.Common.{◌≡◌, ℕ, zero, suc, ◌+◌, Bool, true, false, cond, List, [], ◌∷◌, Some, refl, sym, ap, ◌∙◌, subst, arith}
use Rattle.std.specs.Prelude.{slice_get, ◌==◌, ◌&&◌}
use Rattle.std.proofs.lemmas.Bool.{false≢true, eqb-true, eq-eqb}
use Rattle.ss_model.specs.declared.LinkLine.{LinkLine}
use Rattle.ss_model.specs.Wiring.{Wiring, link_from}
use Rattle.ss_safe.specs.Safe.{IsLine}
use Rattle.ss_safe.specs.Kept.Found.{some_same, none_some}
use Rattle.mr_order.specs.Seats.{LinesLeadBack}
use Rattle.mr_wired.specs.Pairs.{AreInPairs, LeaveOnce, PairsLeadBack}

both_are : (a b : Bool) → (a && b) ≡ true → (a ≡ true) × (b ≡ true)
both_are true true h = (refl, refl)
both_are true false h = absurd (false≢true h)
both_are false b h = absurd (false≢true h)

-- the only line out of a port is the first one
link_first : (n : ℕ) (ls : List LinkLine) (l : ℕ) (k : LinkLine) → slice_get ls l ≡ Some k → ((m : ℕ) (j : LinkLine) → slice_get ls m ≡ Some j → j.sender ≡ k.sender → j.out_port ≡ k.out_port → m ≡ l) →
    link_from n ls k.sender k.out_port ≡ Some (n + l, k.latency)
link_first n [] l k g one = absurd (none_some g)
link_first n (x ∷ ls) zero k g one =
    let same : x ≡ k = some_same g in
    let a : (x.sender == k.sender) ≡ true = eq-eqb x.sender k.sender (ap (λ (z : LinkLine). z.sender) same) in
    let b : (x.out_port == k.out_port) ≡ true = eq-eqb x.out_port k.out_port (ap (λ (z : LinkLine). z.out_port) same) in
    ap (λ t. cond (t && (x.out_port == k.out_port)) (Some (n, x.latency)) (link_from (n + 1) ls k.sender k.out_port)) a
    ∙ ap (λ t. cond t (Some (n, x.latency)) (link_from (n + 1) ls k.sender k.out_port)) b
    ∙ ap (λ (z : LinkLine). Some (n, z.latency)) same
    ∙ ap (λ z. Some (z, k.latency)) {x = n} {y = n + zero} (omega arith)
link_first n (x ∷ ls) (suc l) k g one = by_test ((x.sender == k.sender) && (x.out_port == k.out_port)) refl (link_first (n + 1) ls l k g)
  where
    by_test : (b : Bool) → (x.sender == k.sender) && (x.out_port == k.out_port) ≡ b → (((m : ℕ) (j : LinkLine) → slice_get ls m ≡ Some j → j.sender ≡ k.sender → j.out_port ≡ k.out_port → m ≡ l) → link_from (n + 1) ls k.sender k.out_port ≡ Some (n + 1 + l, k.latency)) → cond b (Some (n, x.latency)) (link_from (n + 1) ls k.sender k.out_port) ≡ Some (n + suc l, k.latency)
    by_test true e ih =
        let two = both_are (x.sender == k.sender) (x.out_port == k.out_port) e in
        let first : 0 ≡ suc l = one 0 x refl (eqb-true x.sender k.sender two.0) (eqb-true x.out_port k.out_port two.1) in
        absurd (omega (arith, first))
    by_test false e ih =
        ih (λ m j h a b. let s : suc m ≡ suc l = one (suc m) j h a b in omega (arith, s))
        ∙ ap (λ z. Some (z, k.latency)) {x = n + 1 + l} {y = n + suc l} (omega arith)

module _ (w : Wiring) (pairs : AreInPairs w.links) (once : LeaveOnce w.links) where
  -- two lines into one port are one
  enter_once : (l m : ℕ) (k j : LinkLine) → slice_get w.links l ≡ Some k → slice_get w.links m ≡ Some j → j.receiver ≡ k.receiver → j.in_port ≡ k.in_port → m ≡ l
  enter_once l m k j gk gj receiver in_port =
      let a = pairs l k gk in
      let b = pairs m j gj in
      let same_place : b.0 ≡ a.0 = once a.0 b.0 a.1 b.1 a.2 b.2 (b.3.sender ∙ receiver ∙ sym a.3.sender) (b.3.out_port ∙ in_port ∙ sym a.3.out_port) in
      let same : b.1 ≡ a.1 = some_same (sym b.2 ∙ ap (slice_get w.links) same_place ∙ a.2) in
      once l m k j gk gj
      (sym b.3.receiver ∙ ap (λ (z : LinkLine). z.receiver) same ∙ a.3.receiver)
      (sym b.3.in_port ∙ ap (λ (z : LinkLine). z.in_port) same ∙ a.3.in_port)

  line_of : (l : ℕ) (k : LinkLine) → slice_get w.links l ≡ Some k → IsLine w l k.sender k.out_port k.receiver k.in_port
  line_of l k g = record {
    link = k;
    is = g;
    sender = refl;
    out_port = refl;
    receiver = refl;
    in_port = refl;
    first = link_first 0 w.links l k g (λ m j h a b. once l m k j g h a b) ∙ ap (λ z. Some (z, k.latency)) {x = 0 + l} {y = l} (omega arith);
    only = λ m j h a b. enter_once l m k j g h a b;
  }

  lead_back : LinesLeadBack w
  lead_back l k g =
      let a = pairs l k g in
      let back : IsLine w a.0 a.1.sender a.1.out_port a.1.receiver a.1.in_port = line_of a.0 a.1 a.2 in (
        a.0,
        record {
          ahead = line_of l k g;
          back = subst (λ z. IsLine w a.0 z k.in_port k.sender k.out_port) a.3.sender
              (subst (λ z. IsLine w a.0 a.1.sender z k.sender k.out_port) a.3.out_port
              (subst (λ z. IsLine w a.0 a.1.sender a.1.out_port z k.out_port) a.3.receiver
              (subst (λ z. IsLine w a.0 a.1.sender a.1.out_port a.1.receiver z) a.3.in_port back)));
        },
      )

pub pairs_lead_back : PairsLeadBack
pairs_lead_back w pairs once = lead_back w pairs once
