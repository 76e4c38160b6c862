-- What fits the form, as the definitions of sound states have it, and its spelling, field by field.
use Rattle.std.proofs.Common.{◌≡◌, ℕ, zero, suc, ◌+◌, ◌≤◌, Bool, true, false, eqb, List, [], ◌∷◌, ◌++◌, length, drop, Option, Some, None, is_some, Result, Ok, Err, refl, sym, ap, subst, ◌∙◌, append_assoc, arith}
use Rattle.std.proofs.lemmas.Grind.{common_steps}
use Rattle.std.specs.Prelude.{slice_get, not, IfOk, ◌==◌, if◌then◌else◌}
use Rattle.std.specs.List.{flat_map}
use Rattle.std.proofs.lemmas.List.{drop_at}
use Rattle.std.proofs.lemmas.List.Concat.{flat_map-cons}
use Rattle.ss_wire.specs.Wire.{Cursor, IsBytes, number}
use Rattle.ss_wire.specs.Form.{Form, big_bytes, ◌>>=◌, IsForm, spell_some, choose, nothing, each, lifted, whole}
use Rattle.ss_wire.proofs.Fields.{IsBytes-drop}
use Rattle.ss_wire.proofs.Forms.{ok_is, each_length, whole_takes, whole_again}
use Rattle.ss_model.specs.declared.Key.{Key}
use Rattle.ss_model.specs.declared.Event.{Event}
use Rattle.ss_model.specs.Order.{key_before, NoneBefore, IsSorted}
use Rattle.ss_model.specs.Wiring.{Wiring, target_of}
use Rattle.ss_model.specs.Step.{State}
use Rattle.ss_model.proofs.Keys.{NoneBefore-upto}
use Rattle.ss_element.specs.Saving.{Saving, state_form, load_form}
use Rattle.ss_safe.specs.Safe.{Each}
use Rattle.ss_safe.specs.Sound.{IsSaved, IsRead}
use Rattle.ss_ckpt.specs.declared.fault.CkptFault.{CkptFault}
use Rattle.ss_ckpt.specs.declared.fault.CkptFault.TheVariants as fault
use Rattle.ss_ckpt.specs.declared.head.Head.{Head}
use Rattle.ss_ckpt.specs.declared.reading.Saved.{Saved}
use Rattle.ss_ckpt.specs.Faults.{fault_of, Fails, Gives, GivesAll}
use Rattle.ss_ckpt.specs.Views.{fields_of, state_of, body_of}
use Rattle.ss_ckpt.proofs.Through.{fails_on}
use Rattle.ss_ckpt.proofs.Laws.{head_is_form, checkpoint_is_form}
use Rattle.ss_ckpt.specs.Form.{Fields, head_form, is_class, is_reached, not_after, receiver, load_by, event_form, events_form, body_form, body_by, checkpoint_form}
use Rattle.ss_ckpt.specs.Spells.{IsHead, first_read, whole_read, head_text, event_text, body_text, Spells, IsAnswer, HasOneSpelling}

none_there : {X : Type 0} {x : X} → None ≡ Some x → ⊥
none_there h = cc

-- ---- one event

of_class : (k : ℕ) → is_class k ≡ true → 1 ≤ k
of_class zero h = absurd cc
of_class (suc k) h = omega arith

reached : (count : ℕ) (o : Option (ℕ × ℕ)) → is_reached count o ≡ true → is_some o ≡ true
reached count None h = absurd cc
reached count (Some r) h = refl

not_before : (b : Bool) → not b ≡ true → b ≡ false
not_before true h = absurd cc
not_before false h = refl

module _ {S L : Type 0} (saving : Saving S L) where
  -- a load is there where the class is that of arrivals
  load_there : (b : Bool) (o : Option S) (load : Option L) → (choose b (load_by saving o) (nothing None)).Fits load → is_some load ≡ b
  load_there true None load h = absurd h
  load_there true (Some x) None h = absurd h
  load_there true (Some x) (Some y) h = refl
  load_there false o load h = ap is_some h

  load_spelled : (b : Bool) (o : Option S) (load : Option L) → (choose b (load_by saving o) (nothing None)).Fits load → (choose b (load_by saving o) (nothing None)).spell load ≡ spell_some saving.spell_load load
  load_spelled true None load h = absurd h
  load_spelled true (Some x) None h = refl
  load_spelled true (Some x) (Some y) h = refl
  load_spelled false o load h = sym (ap (spell_some saving.spell_load) h)

  module _ (w : Wiring) (xs : List S) where
    event_spelled : (before : Option Key) (e : Event L) → (event_form saving w xs before).Fits e → (event_form saving w xs before).spell e ≡ event_text saving e
    event_spelled before e h =
        let a = big_bytes 8 e.key.time in
        let b = big_bytes 1 e.key.class in
        let c = big_bytes 4 e.key.line in
        let load = load_spelled (eqb e.key.class 2) (receiver xs (target_of w e.key.class e.key.line)) e.load h.1.1 in
        ap (λ l. (a ++ (b ++ c)) ++ l) load
        ∙ append_assoc a (b ++ c) (spell_some saving.spell_load e.load)
        ∙ ap (λ l. a ++ l) (append_assoc b c (spell_some saving.spell_load e.load))

    pub events_spelled : (n : ℕ) (before : Option Key) (es : List (Event L)) → (events_form saving w xs n before).Fits es → (events_form saving w xs n before).spell es ≡ flat_map (event_text saving) es
    events_spelled zero before es h = sym (ap (flat_map (event_text saving)) h)
    events_spelled (suc n) before [] h = absurd h
    events_spelled (suc n) before (e ∷ es) h =
        ap (λ l. l ++ (events_form saving w xs n (Some e.key)).spell es) (event_spelled before e h.0)
        ∙ ap (λ l. event_text saving e ++ l) (events_spelled n (Some e.key) es h.1)
        ∙ sym (flat_map-cons (event_text saving) e es)

    event_saved : (before : Option Key) (e : Event L) → (event_form saving w xs before).Fits e → IsSaved w e
    event_saved before e h = record {
      no_start = of_class e.key.class h.1.0.0.1.1.0.1;
      real = reached (length xs) (target_of w e.key.class e.key.line) h.1.0.0.1.1.1.1;
      loaded = load_there (eqb e.key.class 2) (receiver xs (target_of w e.key.class e.key.line)) e.load h.1.1;
    }

    events_saved : (n : ℕ) (before : Option Key) (es : List (Event L)) → (events_form saving w xs n before).Fits es → Each (IsSaved w) es
    events_saved zero before es h = subst (Each (IsSaved w)) (sym h) tt
    events_saved (suc n) before [] h = absurd h
    events_saved (suc n) before (e ∷ es) h = (event_saved before e h.0, events_saved n (Some e.key) es h.1)

    -- each comes before none in front of it
    abbrev Behind : Option Key → List (Event L) → Type 0
    Behind None es = Unit {0}
    Behind (Some k) es = NoneBefore k es

    behind_more : (before : Option Key) (e : Event L) (es : List (Event L)) → not_after before e.key ≡ true → NoneBefore e.key es → Behind before (e ∷ es)
    behind_more None e es h n = tt
    behind_more (Some k) e es h n = let first = not_before (key_before e.key k) h in (first, NoneBefore-upto k e.key es first n)

    behind_none : (before : Option Key) → Behind before []
    behind_none None = tt
    behind_none (Some k) = tt

    events_sorted : (n : ℕ) (before : Option Key) (es : List (Event L)) → (events_form saving w xs n before).Fits es → Behind before es × IsSorted es
    events_sorted zero before es h = subst (λ l. Behind before l × IsSorted l) (sym h) (behind_none before, tt)
    events_sorted (suc n) before [] h = absurd h
    events_sorted (suc n) before (e ∷ es) h =
        let rest = events_sorted n (Some e.key) es h.1 in
        (behind_more before e es h.0.1.0.1 rest.0, (rest.0, rest.1))

  each_restored : (firsts xs : List S) → (each (λ x. lifted fault_of (state_form saving x)) firsts).Fits xs → (c : ℕ) (first x : S) → slice_get firsts c ≡ Some first → slice_get xs c ≡ Some x → saving.IsOf first x
  each_restored [] xs h c first x f g = absurd (none_there f)
  each_restored (y ∷ firsts) [] h c first x f g = absurd h
  each_restored (y ∷ firsts) (z ∷ xs) h zero first x f g =
      let a : y ≡ first = cc in
      let b : z ≡ x = cc in
      subst (λ v. saving.IsOf v x) a (subst (λ v. saving.IsOf y v) b h.0)
  each_restored (y ∷ firsts) (z ∷ xs) h (suc c) first x f g = each_restored firsts xs h.1 c first x f g

  module _ (w : Wiring) (firsts xs : List S) (es : List (Event L)) (fits : (body_form saving w firsts).Fits (xs, es)) where
    pub is_read : (last : ℕ) → IsRead saving w firsts (record { components = xs; pending = es; last = last })
    is_read last = record {
      restored = record { long = each_length (λ x. lifted fault_of (state_form saving x)) firsts xs fits.0; each = each_restored firsts xs fits.0 };
      sorted = (events_sorted w xs (length es) None es fits.1.2).1;
      saved = events_saved w xs (length es) None es fits.1.2;
    }

    pub body_spelled : (body_form saving w firsts).spell (xs, es) ≡ body_text saving xs es
    body_spelled = ap (λ l. flat_map saving.spell xs ++ (big_bytes 4 (length es) ++ l)) (events_spelled w xs (length es) None es fits.1.2)

-- ---- the head

drop_front : (a b : List ℕ) → drop (length a) (a ++ b) ≡ b
drop_front a b = drop_at a b (length a) refl

-- a head that was read stands at the front
pub head_stands : (law : IsForm head_form) (bytes : List ℕ) (h : Fields) (d : Cursor) → IsBytes bytes → head_form.read (record { rest = bytes; at = 0 }) ≡ Ok (h, d) → IsHead bytes h d.at
head_stands law bytes h d are e =
    let t = law.takes (record { rest = bytes; at = 0 }) h d are e in
    let long : d.at ≡ length (head_form.spell h) = let at = t.at in omega (arith, at) in
    let left : drop d.at bytes ≡ d.rest = ap (λ n. drop n bytes) long ∙ ap (drop (length (head_form.spell h))) t.parts ∙ drop_front (head_form.spell h) d.rest in
    record { fits = t.fits; is = t.parts ∙ ap (λ l. head_form.spell h ++ l) (sym left); long = long }

-- the same bytes have one head
pub one_head : (law : IsForm head_form) (bytes : List ℕ) (h k : Fields) (body : ℕ) (rest : List ℕ) → IsHead bytes h body → head_form.Fits k → bytes ≡ head_form.spell k ++ rest → (h ≡ k) × (drop body bytes ≡ rest)
one_head law bytes h k body rest is fits e =
    let a = law.again h 0 (drop body bytes) is.fits in
    let b = law.again k 0 rest fits in
    let same : ◌≡◌ {A = Fields × Cursor} (h, record { rest = drop body bytes; at = 0 + length (head_form.spell h) }) (k, record { rest = rest; at = 0 + length (head_form.spell k) })
    = ok_is {F = CkptFault} (h, record { rest = drop body bytes; at = 0 + length (head_form.spell h) }) (k, record { rest = rest; at = 0 + length (head_form.spell k) })
    (sym a ∙ ap (λ l. head_form.read (record { rest = l; at = 0 })) (sym is.is ∙ e) ∙ b) in
    (ap (λ p. p.0) same, ap (λ p. p.1.rest) same)

pub cursor_is : (c : Cursor) (rest : List ℕ) (at : ℕ) → c.rest ≡ rest → c.at ≡ at → c ≡ record { rest = rest; at = at }
cursor_is c rest at r a = ap (λ l. record { rest = l; at = c.at }) r ∙ ap (λ n. record { rest = rest; at = n }) a

pub found_head : (law : IsForm head_form) (r : Result Head CkptFault) (bytes : List ℕ) (old new : Cursor) → IsBytes bytes → old.rest ≡ bytes → old.at ≡ 0 → Gives fields_of r new (head_form.read old) → IfOk r (λ h. h.body ≡ new.at) → IfOk r (λ h. IsHead bytes (fields_of h) h.body)
found_head law (Ok h) bytes old new are rest at told body =
    subst (IsHead bytes (fields_of h)) (sym body)
    (head_stands law bytes (fields_of h) new are (ap head_form.read (sym (cursor_is old bytes 0 rest at)) ∙ told))
found_head law (Err e) bytes old new are rest at told body = tt

pub first_head : (r : Result Head CkptFault) (bytes : List ℕ) (old new : Cursor) → old.rest ≡ bytes → old.at ≡ 0 → Gives fields_of r new (head_form.read old) → GivesAll fields_of r (first_read head_form bytes 0)
first_head (Ok h) bytes old new rest at told = ap (λ q. q >>= λ x. Ok x.0) (ap head_form.read (sym (cursor_is old bytes 0 rest at)) ∙ told)
first_head (Err e) bytes old new rest at told = fails_on e (head_form.read (record { rest = bytes; at = 0 })) (λ x. Ok x.0) (subst (λ c. Fails e (head_form.read c)) (cursor_is old bytes 0 rest at) told)

-- what is left behind the whole: nothing, or a byte that doesn't belong there
whole_on : {A : Type 0} (f : Form CkptFault A) (bytes : List ℕ) (at : ℕ) (old new : Cursor) (a : A) → old.rest ≡ drop at bytes → old.at ≡ at → f.read old ≡ Ok (a, new) →
    whole_read f bytes at ≡ (if length new.rest == 0 then Ok a else Err (fault.Trailing new.at))
whole_on f bytes at old new a rest is told = ap (λ q. q >>= λ x. if length x.1.rest == 0 then Ok x.0 else Err (fault.Trailing x.1.at)) (ap f.read (sym (cursor_is old (drop at bytes) at rest is)) ∙ told)

byte_left : {A : Type 0} (rest : List ℕ) (at : ℕ) (a : A) (n : ℕ × Cursor) → number 1 (record { rest = rest; at = at }) ≡ Ok n → (if length rest == 0 then Ok a else Err (fault.Trailing at)) ≡ Err (fault.Trailing at)
byte_left [] at a n e = absurd cc
byte_left (b ∷ bs) at a n e = grind (arith, common_steps)

none_left : {A : Type 0} (rest : List ℕ) (at k : ℕ) (a : A) → number 1 (record { rest = rest; at = at }) ≡ Err k → (if length rest == 0 then Ok a else Err (fault.Trailing at)) ≡ Ok a
none_left [] at k a e = refl
none_left (b ∷ bs) at k a e = grind (arith, common_steps, e)

pub left_over : {A : Type 0} (f : Form CkptFault A) (bytes : List ℕ) (at : ℕ) (old new : Cursor) (a : A) (n : ℕ × Cursor) → old.rest ≡ drop at bytes → old.at ≡ at → f.read old ≡ Ok (a, new) → number 1 new ≡ Ok n →
    whole_read f bytes at ≡ Err (fault.Trailing new.at)
left_over f bytes at old new a n rest is told e = whole_on f bytes at old new a rest is told ∙ byte_left new.rest new.at a n e

pub used_up : {A : Type 0} (f : Form CkptFault A) (bytes : List ℕ) (at k : ℕ) (old new : Cursor) (a : A) → old.rest ≡ drop at bytes → old.at ≡ at → f.read old ≡ Ok (a, new) → number 1 new ≡ Err k →
    whole_read f bytes at ≡ Ok a
used_up f bytes at k old new a rest is told e = whole_on f bytes at old new a rest is told ∙ none_left new.rest new.at k a e

-- ---- the whole

only_memory : {A : Type 0} (e : CkptFault) (x : A) → Fails e (Ok x) → e ≡ fault.NoMemory
only_memory fault.Magic x h = absurd cc
only_memory fault.Form x h = absurd cc
only_memory (fault.Short at) x h = absurd cc
only_memory (fault.Value at) x h = absurd cc
only_memory (fault.Order at) x h = absurd cc
only_memory (fault.Trailing at) x h = absurd cc
only_memory fault.NoMemory x h = refl

module _ {S L : Type 0} (saving : Saving S L) (w : Wiring) (firsts : List S) (law : IsForm (body_form saving w firsts)) (bytes : List ℕ) (h : Fields) (body : ℕ) (are : IsBytes bytes) (is : IsHead bytes h body) where
  spelled_ok : (xs : List S) (es : List (Event L)) (last : ℕ) → h.last ≡ last → whole_read (body_form saving w firsts) bytes body ≡ Ok (xs, es) → Spells saving w firsts bytes h.graph h.time (record { components = xs; pending = es; last = last })
  spelled_ok xs es last same e =
      let t = whole_takes (body_form saving w firsts) fault.Trailing law (record { rest = drop body bytes; at = body }) (xs, es) (IsBytes-drop body bytes are) e in
      let spelled : bytes ≡ head_text h.graph h.time h.last ++ body_text saving xs es
      = is.is ∙ ap (λ l. head_form.spell h ++ l) (t.1 ∙ body_spelled saving w firsts xs es t.0) in
      record {
        head = subst (λ n. head_form.Fits (record { time = h.time; last = n; graph = h.graph })) same is.fits;
        body = t.0;
        is = subst (λ n. bytes ≡ head_text h.graph h.time n ++ body_text saving xs es) same spelled;
      }

  spelled_read : (s : State S L) → Spells saving w firsts bytes h.graph h.time s → (whole_read (body_form saving w firsts) bytes body ≡ Ok (s.components, s.pending)) × (h.last ≡ s.last)
  spelled_read s sp =
      let k : Fields = record { time = h.time; last = s.last; graph = h.graph } in
      let one = one_head head_is_form bytes h k body (body_text saving s.components s.pending) is sp.head sp.is in
      let left : drop body bytes ≡ (body_form saving w firsts).spell (s.components, s.pending) = one.1 ∙ sym (body_spelled saving w firsts s.components s.pending sp.body) in (
        ap (λ l. whole (body_form saving w firsts) fault.Trailing (record { rest = l; at = body })) left
            ∙ whole_again (body_form saving w firsts) fault.Trailing law (s.components, s.pending) body sp.body,
        ap (λ (f : Fields). f.last) one.0,
      )

  pub found : (r : Result (Saved S L) CkptFault) → GivesAll body_of r (whole_read (body_form saving w firsts) bytes body) → IfOk r (λ x. x.last ≡ h.last) → IfOk r (λ x. Spells saving w firsts bytes h.graph h.time (state_of x))
  found (Ok x) told kept = spelled_ok x.model.elements.items x.events.items x.last (sym kept) told
  found (Err e) told kept = tt

  pub found_read : (r : Result (Saved S L) CkptFault) → GivesAll body_of r (whole_read (body_form saving w firsts) bytes body) → IfOk r (λ x. IsRead saving w firsts (state_of x))
  found_read (Ok x) told =
      let t = whole_takes (body_form saving w firsts) fault.Trailing law (record { rest = drop body bytes; at = body }) (body_of x) (IsBytes-drop body bytes are) told in
      is_read saving w firsts x.model.elements.items x.events.items t.0 x.last
  found_read (Err e) told = tt

  pub answered : (s : State S L) → Spells saving w firsts bytes h.graph h.time s → (r : Result (Saved S L) CkptFault) → GivesAll body_of r (whole_read (body_form saving w firsts) bytes body) → IfOk r (λ x. x.last ≡ h.last) → IsAnswer s state_of r
  answered s sp (Ok x) told kept =
      let all = spelled_read s sp in
      let both : ◌≡◌ {A = List S × List (Event L)} (body_of x) (s.components, s.pending) = ok_is {F = CkptFault} (body_of x) (s.components, s.pending) (sym told ∙ all.0) in
      ap (λ (p : List S × List (Event L)). record { components = p.0; pending = p.1; last = x.last }) both
      ∙ ap (λ n. record { components = s.components; pending = s.pending; last = n }) (kept ∙ all.1)
  answered s sp (Err e) told kept =
      let all = spelled_read s sp in
      only_memory e (s.components, s.pending) (subst (λ q. Fails e q) all.0 told)

pub kept_last : {R : Type 0} (P Q : R → Type 0) (r : Result R CkptFault) → ((x : R) → P x → Q x) → IfOk r P → IfOk r Q
kept_last P Q (Ok x) f h = f x h
kept_last P Q (Err e) f h = tt

module _ {S L : Type 0} (saving : Saving S L) (states : (first : S) → IsForm (state_form saving first)) (loads : (x : S) → IsForm (load_form saving x)) (makes : List ℕ → Option (List S × Wiring)) (bytes : List ℕ) (are : IsBytes bytes) where
  law : IsForm (checkpoint_form saving makes)
  law = checkpoint_is_form saving states loads makes

  is_spelled : (h : Fields) (firsts xs : List S) (w : Wiring) (es : List (Event L)) → makes h.graph ≡ Some (firsts, w) → whole_read (checkpoint_form saving makes) bytes 0 ≡ Ok (h, (xs, es)) → Spells saving w firsts bytes h.graph h.time (record { components = xs; pending = es; last = h.last })
  is_spelled h firsts xs w es m e =
      let t = whole_takes (checkpoint_form saving makes) fault.Trailing law (record { rest = bytes; at = 0 }) (h, (xs, es)) are e in
      let fits : (body_form saving w firsts).Fits (xs, es) = subst (λ o. (body_by saving o).Fits (xs, es)) m t.0.1 in
      record {
        head = t.0.0.0;
        body = fits;
        is = t.1 ∙ ap (λ o. head_form.spell h ++ (body_by saving o).spell (xs, es)) m ∙ ap (λ l. head_form.spell h ++ l) (body_spelled saving w firsts xs es fits);
      }

  is_read_as : (graph : List ℕ) (at : ℕ) (firsts : List S) (w : Wiring) (s : State S L) → makes graph ≡ Some (firsts, w) → Spells saving w firsts bytes graph at s → whole_read (checkpoint_form saving makes) bytes 0 ≡ Ok (record { time = at; last = s.last; graph = graph }, (s.components, s.pending))
  is_read_as graph at firsts w s m sp =
      let h : Fields = record { time = at; last = s.last; graph = graph } in
      let fits : (body_by saving (makes graph)).Fits (s.components, s.pending) = subst (λ o. (body_by saving o).Fits (s.components, s.pending)) (sym m) sp.body in
      let spelled : bytes ≡ (checkpoint_form saving makes).spell (h, (s.components, s.pending))
      = sp.is ∙ ap (λ l. head_form.spell h ++ l) (sym (body_spelled saving w firsts s.components s.pending sp.body)) ∙ ap (λ o. head_form.spell h ++ (body_by saving o).spell (s.components, s.pending)) (sym m) in
      ap (λ l. whole (checkpoint_form saving makes) fault.Trailing (record { rest = l; at = 0 })) spelled
      ∙ whole_again (checkpoint_form saving makes) fault.Trailing law (h, (s.components, s.pending)) 0 ((sp.head, ap is_some m), fits)

  pub one_spelling : HasOneSpelling saving makes bytes
  one_spelling = record { spelled = is_spelled; read = is_read_as }
