-- A kind among others. Elements of several kinds are told apart by a type with a variant for each: what each kind keeps, they keep
-- together. The proofs.
use Rattle.std.proofs.Common.{◌≡◌, ℕ, ◌+◌, List, [], ◌∷◌, ◌++◌, length, true, Result, Ok, refl, sym, ap, subst, ◌∙◌}
use Rattle.ss_wire.specs.Wire.{Cursor, IsBytes}
use Rattle.ss_wire.specs.Form.{◌>>=◌, Form, Takes, IsForm}
use Rattle.ss_wire.proofs.Forms.{bind_ok, ok_is}
use Rattle.ss_model.specs.declared.Cause.{Cause}
use Rattle.ss_model.specs.declared.Cause.TheVariants as cause
use Rattle.ss_model.specs.declared.Action.{Action}
use Rattle.ss_model.specs.declared.Action.TheVariants as action
use Rattle.ss_model.specs.Step.{Reaction}
use Rattle.ss_element.specs.declared.fault.RestoreFault.{RestoreFault}
use Rattle.ss_element.specs.Kind.{Kind}
use Rattle.ss_element.specs.Saving.{Saving, CauseIsOf}
use Rattle.ss_safe.specs.Laws.{meters_of, HasRoom, SameRoom, Allowed, MayHear, IsDue, MayTell, SendsFit, NamesAll, NamesAsMuch, Keeps, KindLaws}

-- an element of a kind of which something is so, as one of several kinds
pub record IsA {S U : Type 0} (to : S → U) (P : S → Type 0) (u : U) : Type 0 where
  pub element : S
  pub is : to element ≡ u
  pub so : P element

-- what an element does, as one of several kinds
abbrev pub lift : {S U L : Type 0} → (S → U) → Reaction S L → Reaction U L
lift to r = record { state = to r.state; actions = r.actions }

-- what was read of a kind, as an element of several
abbrev pub read_as : {S U : Type 0} → (S → U) → Result (S × Cursor) RestoreFault → Result (U × Cursor) RestoreFault
read_as to r = r >>= λ v. Ok (to v.0, v.1)

-- ---- what several kinds say of one

abbrev pub kind_in : {S U L : Type 0} → (S → U) → (S → ℕ → Cause L → Reaction S L) → (S → S → Type 0) → Kind U L → Kind S L
kind_in to handled Alike all = record {
  handled = handled;
  Meets = λ x. all.Meets (to x);
  primary = λ x. all.primary (to x);
  done = λ x. all.done (to x);
  ticks = λ x. all.ticks (to x);
  begun = λ x. all.begun (to x);
  fits = λ x. all.fits (to x);
  fits_load = λ x. all.fits_load (to x);
  channels = λ x. all.channels (to x);
  flow = λ x. all.flow (to x);
  limit = λ x. all.limit (to x);
  weight = all.weight;
  stats = λ x. all.stats (to x);
  Alike = Alike;
}

abbrev pub allowed_in : {S U L : Type 0} → (S → U) → Allowed U L → Allowed S L
allowed_in to all = record {
  holds = λ x. all.holds (to x);
  first = λ x. all.first (to x);
  gives = λ x. all.gives (to x);
  names_port = λ x. all.names_port (to x);
  names_line = λ x. all.names_line (to x);
  names_clock = λ x. all.names_clock (to x);
}

-- ---- laws

module _ {S U L : Type 0} (to : S → U) (handled : S → ℕ → Cause L → Reaction S L) (Alike : S → S → Type 0) (all : Kind U L) (may : Allowed U L) where
  abbrev kind : Kind S L
  kind = kind_in to handled Alike all

  abbrev allowed : Allowed S L
  allowed = allowed_in to may

  pub hears_of : (x : S) (at : ℕ) (why : Cause L) → MayHear all (to x) at why → MayHear kind x at why
  hears_of x at cause.Start h = h
  hears_of x at (cause.Link p y) h = h
  hears_of x at (cause.Own i y) h = h
  hears_of x at (cause.Tick i) h = h

  due : (x : S) (now : ℕ) (why : Cause L) → IsDue all may (to x) now why → IsDue kind allowed x now why
  due x now cause.Start h = h
  due x now (cause.Link p y) h = h
  due x now (cause.Own i y) h = h
  due x now (cause.Tick i) h = h

  room : (x : S) (why : Cause L) → HasRoom (meters_of all) (to x) why → HasRoom (meters_of kind) x why
  room x cause.Start h = h
  room x (cause.Link p y) h = h
  room x (cause.Own i y) h = h
  room x (cause.Tick i) h = h

  pub told : (x : S) (now : ℕ) (why : Cause L) → MayTell all may (to x) now why → MayTell kind allowed x now why
  told x now why h = record {
    holds = h.holds;
    fit = h.fit;
    early = h.early;
    heard = hears_of x (now + 1) why h.heard;
    due = due x now why h.due;
    room = room x why h.room;
  }

  sends : (x : S) (now : ℕ) (acts : List (Action L)) → SendsFit kind allowed x now acts → SendsFit all may (to x) now acts
  sends x now [] h = tt
  sends x now (action.Send p extra y ∷ acts) h = (h.0, sends x now acts h.1)
  sends x now (action.SelfSend i delay y ∷ acts) h = (h.0, sends x now acts h.1)
  sends x now (action.ClockOn i ∷ acts) h = (h.0, sends x now acts h.1)
  sends x now (action.ClockOff i ∷ acts) h = (h.0, sends x now acts h.1)
  sends x now (action.Print text ∷ acts) h = (h.0, sends x now acts h.1)

  names : (x : S) (acts : List (Action L)) → NamesAll kind allowed x acts → NamesAll all may (to x) acts
  names x [] h = tt
  names x (action.Send p extra y ∷ acts) h = (h.0, names x acts h.1)
  names x (action.SelfSend i delay y ∷ acts) h = (h.0, names x acts h.1)
  names x (action.ClockOn i ∷ acts) h = (h.0, names x acts h.1)
  names x (action.ClockOff i ∷ acts) h = (h.0, names x acts h.1)
  names x (action.Print text ∷ acts) h = (h.0, names x acts h.1)

  module _ (laws : KindLaws kind allowed) where
    pub meets_as : (x : S) (now : ℕ) (why : Cause L) → MayTell all may (to x) now why → all.Meets (to x) now why
    meets_as x now why h = laws.meets x now why (told x now why h)

    pub keeps_as : ((x : S) (u : U) → IsA to (Alike x) u → all.Alike (to x) u) → (x : S) (now : ℕ) (why : Cause L) → MayTell all may (to x) now why → Keeps all may (to x) now why (lift to (handled x now why))
    keeps_as alike x now why h =
        let k = laws.keeps x now why (told x now why h) in
        let r = handled x now why in
        record {
          holds = k.holds;
          fit = k.fit;
          begun = k.begun;
          alike = alike x (to r.state) (record { element = r.state; is = refl; so = k.alike });
          acts = k.acts;
          sends = sends x now r.actions k.sends;
          names = names x r.actions k.names;
          flow = record { credits = k.flow.credits; queued = k.flow.queued };
          clocks = k.clocks;
        }

    same_room_by : (x y : S) → Alike x y → SameRoom (meters_of all) (to x) (to y)
    same_room_by x y a = let s = laws.same_room x y a in record { channels = s.channels; capacity = s.capacity; limit = s.limit }

    pub same_room_as : (x : S) (u : U) → IsA to (Alike x) u → SameRoom (meters_of all) (to x) u
    same_room_as x u a = subst (SameRoom (meters_of all) (to x)) a.is (same_room_by x a.element a.so)

    pub hears_as : (x : S) (u : U) (why : Cause L) (at : ℕ) → IsA to (Alike x) u → all.fits_load (to x) why at ≡ true → all.fits_load u why at ≡ true
    hears_as x u why at a h = subst (λ v. all.fits_load v why at ≡ true) a.is (laws.hears_alike x a.element why at a.so h)

    pub gives_as : (x : S) (u : U) (p : ℕ) (y : L) (at : ℕ) → IsA to (Alike x) u → may.gives u p y at → may.gives (to x) p y at
    gives_as x u p y at a g = laws.gives_alike x a.element p y at a.so (subst (λ v. may.gives v p y at) (sym a.is) g)

    names_by : (x y : S) → Alike x y → NamesAsMuch all may (to x) (to y)
    names_by x y a = let n = laws.names_alike x y a in record { ports = n.ports; lines = n.lines; clocks = n.clocks }

    pub names_as : (x : S) (u : U) → IsA to (Alike x) u → NamesAsMuch all may (to x) u
    names_as x u a = subst (NamesAsMuch all may (to x)) a.is (names_by x a.element a.so)

-- ---- what is alike, and what was read

module _ {S U : Type 0} (to : S → U) where
  -- an element as it is
  pub as_it_is : (P : S → Type 0) (x : S) → P x → IsA to P (to x)
  as_it_is P x h = record { element = x; is = refl; so = h }

  -- one thing follows from another
  pub also : (P Q : S → Type 0) → ((x : S) → P x → Q x) → (u : U) → IsA to P u → IsA to Q u
  also P Q f u h = record { element = h.element; is = h.is; so = f h.element h.so }

  -- what is so of the element is so
  pub as_one : (P : S → Type 0) (Q : U → Type 0) → ((x : S) → P x → Q (to x)) → (u : U) → IsA to P u → Q u
  as_one P Q f u h = subst Q h.is (f h.element h.so)

  -- through a second element
  pub through_as : (Alike : S → S → Type 0) (Other : U → U → Type 0) → ((x : S) (v : U) → Other (to x) v → IsA to (Alike x) v) → ((x y z : S) → Alike x y → Alike y z → Alike x z) → (x : S) (u v : U) → IsA to (Alike x) u → Other u v → IsA to (Alike x) v
  through_as Alike Other back through x u v a b =
      let c = back a.element v (subst (λ w. Other w v) (sym a.is) b) in
      record { element = c.element; is = c.is; so = through x a.element c.element a.so c.so }

  -- what can be read in the place of an element can be in that of one that is alike
  pub read_through : (Alike Is : S → S → Type 0) (Read : U → U → Type 0) → ((x y : S) → to x ≡ to y → x ≡ y) → ((x : S) (v : U) → Read (to x) v → IsA to (Is x) v) → ((x y : S) → Alike x y → Is y y → Is x y) → (x : S) (u : U) → IsA to (Alike x) u → Read u u → IsA to (Is x) u
  read_through Alike Is Read apart back law x u a f =
      let b = back a.element (to a.element) (subst (λ v. Read v v) (sym a.is) f) in
      record { element = a.element; is = a.is; so = law x a.element a.so (subst (Is a.element) (apart b.element a.element b.is) b.so) }

  -- a form of a kind, as one of several
  module _ (f : Form RestoreFault S) (g : Form RestoreFault U) (law : IsForm f) (reads : (c : Cursor) → g.read c ≡ read_as to (f.read c)) (spells : (x : S) → g.spell (to x) ≡ f.spell x) (fits : (u : U) → IsA to f.Fits u → g.Fits u) (back : (u : U) → g.Fits u → IsA to f.Fits u) where
    moved : (c d e : Cursor) (x y : U) → ◌≡◌ {A = U × Cursor} (x, d) (y, e) → Takes g c x d → Takes g c y e
    moved c d e x y h t = subst (λ (p : U × Cursor). Takes g c p.0 p.1) h t

    takes_as : (c : Cursor) (y : U) (d : Cursor) → IsBytes c.rest → g.read c ≡ Ok (y, d) → Takes g c y d
    takes_as c y d h e =
        let b = bind_ok (f.read c) (λ v. Ok (to v.0, v.1)) (y, d) (sym (reads c) ∙ e) in
        let t = law.takes c b.0.0 b.0.1 h b.1 in
        let same = spells b.0.0 in
        moved c b.0.1 d (to b.0.0) y (ok_is {F = RestoreFault} (to b.0.0, b.0.1) (y, d) b.2) (record {
          parts = t.parts ∙ ap (λ l. l ++ b.0.1.rest) (sym same);
          at = t.at ∙ ap (λ l. c.at + length l) (sym same);
          bytes = t.bytes;
          fits = fits (to b.0.0) (as_it_is f.Fits b.0.0 t.fits);
        })

    again_as : (y : U) (at : ℕ) (rest : List ℕ) → g.Fits y → g.read (record { rest = g.spell y ++ rest; at = at }) ≡ Ok (y, record { rest = rest; at = at + length (g.spell y) })
    again_as y at rest h =
        let b = back y h in
        let same = spells b.element in
        let P : U → Type 0 = λ z. g.read (record { rest = g.spell z ++ rest; at = at }) ≡ Ok (z, record { rest = rest; at = at + length (g.spell z) }) in
        subst P b.is (rw (same, reads (record { rest = f.spell b.element ++ rest; at = at }), law.again b.element at rest b.so) refl)

    pub form_as : IsForm g
    form_as = record { takes = takes_as; again = again_as }

-- loads that are saved as those of the kind
module _ {S U L : Type 0} (to : S → U) (one : Saving S L) (all : Saving U L) (x : S) where
  pub loads_as : ((y : L) → one.IsLoadOf x y → all.IsLoadOf (to x) y) → (why : Cause L) → CauseIsOf one x why → CauseIsOf all (to x) why
  loads_as same cause.Start h = h
  loads_as same (cause.Link p y) h = same y h
  loads_as same (cause.Own i y) h = same y h
  loads_as same (cause.Tick i) h = h
