-- Where lines lead, and that they lead back.
use Rattle.std.proofs.Common.{◌≡◌, ℕ, Bool, true, false, eqb, List, [], ◌∷◌, ◌++◌, Option, Some, None, is_some, refl, sym, ap, ◌∙◌, subst}
use Rattle.std.specs.Prelude.{slice_get}
use Rattle.std.proofs.lemmas.Bool.{false≢true, eqb-true}
use Rattle.ss_model.specs.declared.Event.{Event}
use Rattle.ss_model.specs.declared.Cause.{Cause}
use Rattle.ss_model.specs.declared.Cause.TheVariants as cause
use Rattle.ss_model.specs.declared.Action.{Action}
use Rattle.ss_model.specs.declared.Action.TheVariants as action
use Rattle.ss_model.specs.declared.LinkLine.{LinkLine}
use Rattle.ss_model.specs.Wiring.{Wiring, link_at}
use Rattle.ss_safe.specs.Laws.{Allowed, NamesAll}
use Rattle.ss_element.specs.Kind.{Kind}
use Rattle.ss_safe.specs.Safe.{IsLine, HasNamed}
use Rattle.ss_safe.specs.Kept.Found.{some_same, some_pair, none_some, link_at_found, link_of, ToldAs}
use Rattle.mr_order.specs.Rows.{only_if, sends_all, takes}
use Rattle.mr_order.specs.Seats.{goes_line, goes_by, goes, comes_by, comes, LinesLeadBack}

pub record Leads (w : Wiring) : Type 0 where
  pub line : (d p l b q : ℕ) → goes w d p ≡ Some (l, b, q) → IsLine w l d p b q
  pub there : (c q a p : ℕ) → comes w c q ≡ Some (a, p) → (l : ℕ) × (goes w a p ≡ Some (l, c, q))
  pub back : (a p l c q : ℕ) → goes w a p ≡ Some (l, c, q) → comes w c q ≡ Some (a, p)

-- the link line on which a port's line goes
record Gone (w : Wiring) (d p l b q : ℕ) : Type 0 where
  link : LinkLine
  is : slice_get w.links l ≡ Some link
  sender : link.sender ≡ d
  out_port : link.out_port ≡ p
  receiver : link.receiver ≡ b
  in_port : link.in_port ≡ q

goes_found : (w : Wiring) (d p l b q : ℕ) → goes w d p ≡ Some (l, b, q) → Gone w d p l b q
goes_found w d p l b q h = at_link (link_at w d p) refl h
  where
    at_get : (n t : ℕ) → link_at w d p ≡ Some (n, t) → (o : Option LinkLine) → slice_get w.links n ≡ o → goes_line n o ≡ Some (l, b, q) → Gone w d p l b q
    at_get n t e None g k = absurd (none_some k)
    at_get n t e (Some y) g k =
        let f = link_at_found w d p n t e in
        let same : y ≡ f.link = some_same (sym g ∙ f.is) in
        let all : ◌≡◌ {A = ℕ × ℕ × ℕ} (n, y.receiver, y.in_port) (l, b, q) = some_same k in
        record {
          link = y;
          is = ap (λ (z : ℕ × ℕ × ℕ). slice_get w.links z.0) (sym all) ∙ g;
          sender = ap (λ (z : LinkLine). z.sender) same ∙ f.sender;
          out_port = ap (λ (z : LinkLine). z.out_port) same ∙ f.out_port;
          receiver = ap (λ (z : ℕ × ℕ × ℕ). z.1) all;
          in_port = ap (λ (z : ℕ × ℕ × ℕ). z.2) all;
        }

    at_link : (o : Option (ℕ × ℕ)) → link_at w d p ≡ o → goes_by w o ≡ Some (l, b, q) → Gone w d p l b q
    at_link None e k = absurd (none_some k)
    at_link (Some (n, t)) e k = at_get n t e (slice_get w.links n) refl k

line_goes : (w : Wiring) (l a p b q : ℕ) → IsLine w l a p b q → goes w a p ≡ Some (l, b, q)
line_goes w l a p b q line =
    ap (goes_by w) line.first
    ∙ ap (goes_line l) line.is
    ∙ ap (λ z. Some (l, z, line.link.in_port)) line.receiver
    ∙ ap (λ z. Some (l, b, z)) line.in_port

module _ (w : Wiring) (lead : LinesLeadBack w) where
  moved : (l a b p q c d r s : ℕ) → a ≡ b → p ≡ q → c ≡ d → r ≡ s → IsLine w l a p c r → IsLine w l b q d s
  moved l a b p q c d r s e f g h line = subst (λ z. IsLine w l z q d s) e (subst (λ z. IsLine w l a z d s) f (subst (λ z. IsLine w l a p z s) g (subst (λ z. IsLine w l a p c z) h line)))

  ahead : (d p l b q : ℕ) → goes w d p ≡ Some (l, b, q) → IsLine w l d p b q
  ahead d p l b q h =
      let f = goes_found w d p l b q h in
      moved l f.link.sender d f.link.out_port p f.link.receiver b f.link.in_port q f.sender f.out_port f.receiver f.in_port (lead l f.link f.is).1.ahead

  way_back : (d p l b q : ℕ) → goes w d p ≡ Some (l, b, q) → (k : ℕ) × IsLine w k b q d p
  way_back d p l b q h =
      let f = goes_found w d p l b q h in
      let r = lead l f.link f.is in
      (r.0, moved r.0 f.link.receiver b f.link.in_port q f.link.sender d f.link.out_port p f.receiver f.in_port f.sender f.out_port r.1.back)

  came_from : (c q a p : ℕ) → comes w c q ≡ Some (a, p) → (l : ℕ) × (goes w a p ≡ Some (l, c, q))
  came_from c q a p h = at_goes (goes w c q) refl h
    where
      at_goes : (o : Option (ℕ × ℕ × ℕ)) → goes w c q ≡ o → comes_by o ≡ Some (a, p) → (l : ℕ) × (goes w a p ≡ Some (l, c, q))
      at_goes None e k = absurd (none_some k)
      at_goes (Some (l, b, i)) e k =
          let same = some_pair b a i p k in
          let r = way_back c q l a p (e ∙ ap (λ z. Some (l, z, i)) same.0 ∙ ap (λ z. Some (l, a, z)) same.1) in
          (r.0, line_goes w r.0 a p c q r.1)

  pub leads_of : Leads w
  leads_of = record {
    line = ahead;
    there = came_from;
    back = λ a p l c q h. let r = way_back a p l c q h in ap comes_by (line_goes w r.0 c q a p r.1);
  }

  -- nothing comes to a port at which no line ends
  pub untold : {L P : Type 0} (carries : L → List P) (e : Event L) (c q : ℕ) (why : Cause L) → ToldAs w e.key.class e.key.line e.load c why → comes w c q ≡ None → takes carries q why ≡ []
  untold carries e c q cause.Start k h = refl
  untold carries e c q (cause.Own i x) k h = refl
  untold carries e c q (cause.Tick i) k h = refl
  untold carries e c q (cause.Link port x) k h = by_port (eqb port q) refl
    where
      by_port : (t : Bool) → eqb port q ≡ t → only_if t (carries x) ≡ []
      by_port false u = refl
      by_port true u =
          let f = link_of w e.key.line c port k.1 k.2 in
          let r = lead e.key.line f.0 f.1 in
          let line = moved r.0 f.0.receiver c f.0.in_port q f.0.sender f.0.sender f.0.out_port f.0.out_port f.2 (f.3 ∙ eqb-true port q u) refl refl r.1.back in
          absurd (none_some (sym h ∙ ap comes_by (line_goes w r.0 c q f.0.sender f.0.out_port line)))

  -- and nothing is sent where no line begins
  pub unsent : {S L P : Type 0} (kind : Kind S L) (allowed : Allowed S L) (carries : L → List P) (c p : ℕ) (x : S) → HasNamed kind allowed w c x → goes w c p ≡ None → (acts : List (Action L)) → NamesAll kind allowed x acts → sends_all carries p acts ≡ []
  unsent kind allowed carries c p x named h [] k = refl
  unsent kind allowed carries c p x named h (action.Send q extra y ∷ acts) k = ap (λ z. z ++ sends_all carries p acts) (by_port (eqb q p) refl) ∙ unsent kind allowed carries c p x named h acts k.1
    where
      at_link : (o : Option (ℕ × ℕ)) → link_at w c p ≡ o → is_some o ≡ true → ⊥
      at_link None e i = false≢true i
      at_link (Some (n, t)) e i = let f = link_at_found w c p n t e in none_some (sym h ∙ ap (goes_by w) e ∙ ap (goes_line n) f.is)

      by_port : (t : Bool) → eqb q p ≡ t → only_if t (carries y) ≡ []
      by_port false u = refl
      by_port true u = absurd (at_link (link_at w c p) refl (subst (λ z. is_some (link_at w c z) ≡ true) (eqb-true q p u) (named.ports q k.0)))
  unsent kind allowed carries c p x named h (action.SelfSend i delay y ∷ acts) k = unsent kind allowed carries c p x named h acts k.1
  unsent kind allowed carries c p x named h (action.ClockOn i ∷ acts) k = unsent kind allowed carries c p x named h acts k.1
  unsent kind allowed carries c p x named h (action.ClockOff i ∷ acts) k = unsent kind allowed carries c p x named h acts k.1
  unsent kind allowed carries c p x named h (action.Print text ∷ acts) k = unsent kind allowed carries c p x named h acts k.1
