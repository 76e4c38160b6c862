-- A step keeps that elements fit, that lines agree, that the wires have what is named, and that what comes may come.
use Rattle.std.proofs.Common.{◌≡◌, ℕ, ◌+◌, true, List, [], ◌∷◌, Some, sym, ap, ◌∙◌, subst}
use Rattle.std.specs.Prelude.{slice_get, slice_set}
use Rattle.ss_model.specs.declared.Event.{Event}
use Rattle.ss_model.specs.declared.Cause.{Cause}
use Rattle.ss_model.specs.declared.Cause.TheVariants as cause
use Rattle.ss_model.specs.declared.Action.{Action}
use Rattle.ss_model.specs.declared.Action.TheVariants as action
use Rattle.ss_model.specs.Wiring.{Wiring, told}
use Rattle.ss_model.specs.Step.{Reaction, next_multiple}
use Rattle.ss_element.specs.Kind.{Kind}
use Rattle.ss_element.specs.Named.{ActionNamed, ActionsNamed}
use Rattle.ss_safe.specs.Laws.{Allowed, MayHear, SendFits, Names, NamesAll, NamesAsMuch, Keeps, KindLaws}
use Rattle.ss_safe.specs.Safe.{AllFit, AllHold, Agrees, HasNamed, AllNamed, IsHeard}
use Rattle.ss_safe.specs.Kept.Events.{Makes, arrival_event, tick_event}
use Rattle.ss_safe.specs.Kept.Found.{some_same, some_pair, link_at_found, own_at_found, told_as, told_link, told_own}
use Rattle.ss_safe.specs.Kept.Steps.{After, reacts, stays, after}

module _ {S L : Type 0} (kind : Kind S L) (allowed : Allowed S L) (laws : KindLaws kind allowed) where
  pub hear_alike : (x y : S) (why : Cause L) (at : ℕ) → kind.Alike x y → MayHear kind x at why → MayHear kind y at why
  hear_alike x y cause.Start at a h = tt
  hear_alike x y (cause.Link p load) at a h = laws.hears_alike x y (cause.Link p load) at a h
  hear_alike x y (cause.Own i load) at a h = laws.hears_alike x y (cause.Own i load) at a h
  hear_alike x y (cause.Tick i) at a h = tt

  -- the wires have what an element names, if they have what another does that may name as much
  pub named_as : (w : Wiring) (c : ℕ) (x y : S) → NamesAsMuch kind allowed x y → HasNamed kind allowed w c x → HasNamed kind allowed w c y
  named_as w c x y much has = record {
    ports = λ p may. has.ports p (much.ports p may);
    lines = λ i may. has.lines i (much.lines i may);
    clocks = λ i may. has.clocks i (much.clocks i may);
  }

  pub acts_named : (w : Wiring) (c : ℕ) (x : S) → HasNamed kind allowed w c x → (acts : List (Action L)) → NamesAll kind allowed x acts → ActionsNamed w c acts
  acts_named w c x has [] h = tt
  acts_named w c x has (a ∷ acts) h = (act_named a h.0, acts_named w c x has acts h.1)
    where
      act_named : (a : Action L) → Names kind allowed x a → ActionNamed w c a
      act_named (action.Send p extra y) may = has.ports p may
      act_named (action.SelfSend i delay y) may = has.lines i may
      act_named (action.ClockOn i) may = has.clocks i may
      act_named (action.ClockOff i) may = has.clocks i may
      act_named (action.Print text) may = tt

  -- component c reacted
  module _ (w : Wiring) (xs : List S) (c now : ℕ) (why : Cause L) (x : S) (r : Reaction S L) (g : slice_get xs c ≡ Some x) (keeps : Keeps kind allowed x now why r) where
    -- a component was such that what might come still may, and what it may send it might send
    record Was (d : ℕ) (z : S) : Type 0 where
      was : S
      there : slice_get xs d ≡ Some was
      hears : (other : Cause L) (at : ℕ) → MayHear kind was at other → MayHear kind z at other
      gives : (p : ℕ) (y : L) (at : ℕ) → allowed.gives z p y at → allowed.gives was p y at

    was_so : (d : ℕ) (z : S) → slice_get (slice_set xs c r.state) d ≡ Some z → Was d z
    was_so d z h = by_component (after xs c x r.state d z g h)
      where
        by_component : After xs c r.state d z → Was d z
        by_component (reacts same is_new) = record {
          was = x;
          there = ap (slice_get xs) (sym same) ∙ g;
          hears = λ other at m. subst (λ y. MayHear kind y at other) is_new (hear_alike x r.state other at keeps.alike m);
          gives = λ p y at m. laws.gives_alike x r.state p y at keeps.alike (subst (λ s. allowed.gives s p y at) (sym is_new) m);
        }
        by_component (stays other is_old) = record { was = z; there = is_old; hears = λ o at m. m; gives = λ p y at m. m }

    pub holds_kept : AllHold kind allowed xs → AllHold kind allowed (slice_set xs c r.state)
    holds_kept hold d z h = by_component (after xs c x r.state d z g h)
      where
        by_component : After xs c r.state d z → allowed.holds z
        by_component (reacts same is_new) = subst allowed.holds is_new keeps.holds
        by_component (stays other is_old) = hold d z is_old

    pub elements_kept : AllFit kind allowed (now + 1) xs → AllFit kind allowed (now + 1) (slice_set xs c r.state)
    elements_kept fit d z h = by_component (after xs c x r.state d z g h)
      where
        by_component : After xs c r.state d z → kind.fits z (now + 1) ≡ true
        by_component (reacts same is_new) = subst (λ y. kind.fits y (now + 1) ≡ true) is_new keeps.fit
        by_component (stays other is_old) = fit d z is_old

    pub named_kept : AllNamed kind allowed w xs → AllNamed kind allowed w (slice_set xs c r.state)
    named_kept named d z h = by_component (after xs c x r.state d z g h)
      where
        by_component : After xs c r.state d z → HasNamed kind allowed w d z
        by_component (reacts same is_new) =
            let has : HasNamed kind allowed w d r.state = named_as w d x r.state (laws.names_alike x r.state keeps.alike) (named d x (ap (slice_get xs) (sym same) ∙ g)) in
            subst (HasNamed kind allowed w d) is_new has
        by_component (stays other is_old) = named d z is_old

    pub agrees_kept : Agrees kind allowed w xs → Agrees kind allowed w (slice_set xs c r.state)
    agrees_kept old n l y z link gy gz load at may =
        let a = was_so l.sender y gy in
        let b = was_so l.receiver z gz in
        b.hears (cause.Link l.in_port load) at (old n l a.was b.was link a.there b.there load at (a.gives l.out_port load at may))

    -- what was to come may come to the component as it is now
    pub heard_kept : (e : Event L) → IsHeard kind allowed w xs (now + 1) e → IsHeard kind allowed w (slice_set xs c r.state) (now + 1) e
    heard_kept e old d other z t gz = let b = was_so d z gz in b.hears other (now + 1) (old d other b.was t b.there)

    -- a tick may always come
    hear_tick : (d : ℕ) (other : Cause L) (at n : ℕ) (z : S) → told {L = L} w (tick_event at n) ≡ Some (d, other) → MayHear kind z (now + 1) other
    hear_tick d cause.Start at n z t = tt
    hear_tick d (cause.Link p y) at n z t = absurd (let k = (told_as w (tick_event at n) d (cause.Link p y) t).0 in cc)
    hear_tick d (cause.Own i y) at n z t = absurd (let k = (told_as w (tick_event at n) d (cause.Own i y) t).0 in cc)
    hear_tick d (cause.Tick i) at n z t = tt

    pub made_heard : Agrees kind allowed w xs → Makes (IsHeard kind allowed w (slice_set xs c r.state) (now + 1)) w c now (SendFits kind allowed x now)
    made_heard agrees = record {
      link = λ p extra y n latency may e d other z t gz.
          let f = link_at_found w c p n latency e in
          let told_so : told w (arrival_event (now + extra + latency) n y) ≡ Some (f.link.receiver, cause.Link f.link.in_port y) = told_link w (now + extra + latency) n y f.link f.is in
          let s = some_pair f.link.receiver d (cause.Link f.link.in_port y) other (sym told_so ∙ t) in
          let b = was_so d z gz in
          let there : slice_get xs f.link.receiver ≡ Some b.was = ap (slice_get xs) s.0 ∙ b.there in
          let may_come = agrees n f.link x b.was f.is (ap (slice_get xs) f.sender ∙ g) there y (now + 1) (subst (λ q. allowed.gives x q y (now + 1)) (sym f.out_port) may) in
          b.hears other (now + 1) (subst (MayHear kind b.was (now + 1)) s.1 may_come);
      own = λ i delay y n may e d other z t gz.
          let told_so : told w (arrival_event (now + delay) n y) ≡ Some (c, cause.Own i y) = told_own w (now + delay) n c i y (own_at_found w c i n e) in
          let s = some_pair c d (cause.Own i y) other (sym told_so ∙ t) in
          let b = was_so d z gz in
          let same : x ≡ b.was = some_same (sym g ∙ ap (slice_get xs) s.0 ∙ b.there) in
          b.hears other (now + 1) (subst (MayHear kind b.was (now + 1)) s.1 (subst (λ v. kind.fits_load v (cause.Own i y) (now + 1) ≡ true) same may));
      on = λ i n period e d other z t gz. hear_tick d other (next_multiple now period) n z t;
    }

    pub again_heard : (at n : ℕ) → IsHeard kind allowed w (slice_set xs c r.state) (now + 1) (tick_event at n)
    again_heard at n d other z t gz = hear_tick d other at n z t
