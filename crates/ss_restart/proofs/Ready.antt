-- A state that bytes spell is ready to be judged.
use Rattle.std.proofs.Common.{◌≡◌, ℕ, ◌<◌, ◌≤◌, ◌^◌, ◌&&◌, Bool, true, false, ltb, Some, refl, sym, ◌∙◌, subst, arith}
use Rattle.std.specs.Prelude.{slice_get}
use Rattle.std.proofs.lemmas.Bool.{false≢true, ltb-true}
use Rattle.ss_model.specs.Wiring.{Wiring}
use Rattle.ss_model.specs.Step.{State}
use Rattle.ss_element.specs.Kind.{Kind}
use Rattle.ss_element.specs.Saving.{Saving}
use Rattle.ss_safe.specs.Laws.{meters_of, Allowed, KindLaws, KindSaves}
use Rattle.ss_safe.specs.Safe.{WiresHold}
use Rattle.ss_safe.specs.Sound.{IsRead}
use Rattle.ss_ckpt.proofs.Spelling.{is_read}
use Rattle.ss_safe.specs.Kept.Found.{get_below, get_some}
use Rattle.ss_restart.specs.Faults.{IsSpelled}
use Rattle.ss_restart.specs.Ready.{IsReady}

module _ {S L : Type 0} (kind : Kind S L) (allowed : Allowed S L) (saving : Saving S L) (laws : KindLaws kind allowed) (saves : KindSaves kind allowed saving) (w : Wiring) (at : ℕ) (s : State S L) (spelled : IsSpelled kind allowed saving w at s) where
  read : IsRead saving w spelled.firsts s
  read = is_read saving w spelled.firsts s.components s.pending spelled.spelled.body s.last

  -- the element that a component was read into
  record Was (c : ℕ) (x : S) : Type 0 where
    first : S
    there : slice_get spelled.firsts c ≡ Some first
    alike : kind.Alike first x

  was : (c : ℕ) (x : S) → slice_get s.components c ≡ Some x → Was c x
  was c x g =
      let restored = read.restored in
      let below = get_below s.components c x g in
      let f = get_some spelled.firsts c (let same = restored.long in omega (arith, below, same)) in
      record { first = f.0; there = f.1; alike = saves.read_alike f.0 x (restored.each c f.0 x f.1 g) }

  both_true : (a b : Bool) → (a && b) ≡ true → (a ≡ true) × (b ≡ true)
  both_true true true h = (refl, refl)
  both_true true false h = absurd (false≢true h)
  both_true false b h = absurd (false≢true h)

  times : (1 ≤ at) × (at < 2 ^ 62)
  times =
      let tests = both_true (ltb 0 at) (ltb at (2 ^ 62)) spelled.spelled.head.1.1.0.1 in
      let above = ltb-true 0 at tests.0 in
      (omega (arith, above), ltb-true at (2 ^ 62) tests.1)

  pub ready : IsReady kind w at s
  ready = record {
    some = times.0;
    early = times.1;
    wires = subst (WiresHold w) (sym read.restored.long) spelled.made.wires;
    paired = λ l ch link y is gy in_range.
        let b = was link.receiver y gy in
        let over = laws.same_room b.first y b.alike in
        let below : ch < (meters_of kind).channels b.first link.in_port = (let same = over.channels link.in_port in omega (arith, in_range, same)) in
        let back = spelled.made.paired l ch link b.first is b.there below in
        record {
          way = back.way;
          pair = back.pair;
          same = λ x gx.
              let a = was link.sender x gx in
              (laws.same_room a.first x a.alike).channels link.out_port ∙ back.same a.first a.there ∙ sym (over.channels link.in_port);
          limit = λ x gx.
              let a = was link.sender x gx in
              let same = back.same a.first a.there in
              (laws.same_room a.first x a.alike).limit link.out_port ch (omega (arith, below, same)) ∙ back.limit a.first a.there ∙ sym (over.capacity link.in_port ch below);
        };
    narrow = λ c p x g.
        let a = was c x g in
        let most = spelled.narrow c p a.first a.there in
        let same = (laws.same_room a.first x a.alike).channels p in
        omega (arith, most, same);
    few = let few = spelled.few in let long = read.restored.long in omega (arith, few, long);
    events = spelled.spelled.body.1.0;
    numbered = spelled.numbered;
    sorted = read.sorted;
    saved = read.saved;
  }
