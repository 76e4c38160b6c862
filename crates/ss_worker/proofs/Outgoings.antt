-- What a part has for others, in the theory's words.
use Rattle.std.proofs.Common.{◌≡◌, ℕ, zero, suc, ◌+◌, ◌<◌, ◌≤◌, inl, inr, List, [], ◌∷◌, ◌++◌, length, Bool, true, false, eqb, Option, Some, None, refl, sym, ap, ◌∙◌, subst, arith, map, cond, slice_index_or, if◌then◌else◌}
use Rattle.std.specs.Prelude.{slice_get, slice_set, ◌==◌}
use Rattle.std.proofs.lemmas.Bool.{cases_eq, eqb-true}
use Rattle.std.proofs.lemmas.List.{get_or-set_other}
use Rattle.ss_worker.proofs.Batches.{map_set as set_map}
use Rattle.ss_model.specs.declared.Event.{Event}
use Rattle.ss_model.specs.declared.Line.{Line}
use Rattle.ss_model.specs.Order.{next_time}
use Rattle.ss_model.specs.Wiring.{Wiring}
use Rattle.ss_element.specs.Kind.{Kind}
use Rattle.ss_element.specs.Saving.{Saving}
use Rattle.ss_window.specs.declared.Cuts.{Cuts}
use Rattle.ss_theory.specs.Rounds.{sooner}
use Rattle.ss_theory.specs.Rounds as rounds
use Rattle.ss_parts.specs.Division.{part_idle}
use Rattle.ss_piece.specs.Pieces.{Slip}
use Rattle.ss_run.specs.declared.RunSpec.{RunSpec}
use Rattle.ss_run.specs.Meaning.{Meaning}
use Rattle.ss_worker.specs.Standing.{Standing, standing, view, RunsTo}
use Rattle.ss_worker.specs.Batched.{AreBatches}
use Rattle.ss_worker.specs.Outgoing.{earliest, Leaves, AreNamed}
use Rattle.ss_worker.specs.Sound.{Name, named}
use Rattle.ss_worker.specs.Told.{Tells}
use Rattle.ss_worker.specs.Saves.{IsHanded, Hands}

module _ {S L : Type 0} (kind : Kind S L) (saving : Saving S L) (w : Wiring) (owners : List ℕ) (p : ℕ) where
  pub first_is : (xs : List (Event L)) → next_time xs ≡ rounds.first_time (view kind w owners p) xs
  first_is [] = refl
  first_is (e ∷ xs) = refl

  pub earliest_is : (xs : List (Event L)) → earliest xs ≡ rounds.earliest (view kind w owners p) xs
  earliest_is [] = refl
  earliest_is (e ∷ xs) = ap (sooner (Some e.key.time)) (earliest_is xs)

  pub leaves : (c : Cuts) (o : Option Slip) (parts t : ℕ) (old ends mid new : Standing S L) (least a b : Option ℕ) (es : List (Event L)) (xs : List (ℕ × S)) (done : Bool) (ls : List Line) (bs : List (List (Event L))) →
      RunsTo kind w owners p t old ends → least ≡ sooner a b → a ≡ next_time ends.part.pending → b ≡ earliest es → es ≡ ends.part.out → done ≡ part_idle kind xs → xs ≡ ends.part.state → ls ≡ ends.part.says →
      mid ≡ standing ends.part.state ends.part.pending ends.part.out [] ends.last → new ≡ standing mid.part.state mid.part.pending [] mid.part.says mid.last → AreBatches w owners parts mid.part.out bs → IsHanded saving c t least ends o →
      Leaves kind saving w owners p c parts t old new least done ls bs o
  leaves c o parts t old ends mid new least a b es xs done ls bs runs el ea eb ee ed ex el2 em en batches handed = record {
    ends = ends;
    runs = runs;
    rest = en ∙ ap (λ (s : Standing S L). standing s.part.state s.part.pending [] s.part.says s.last) em;
    next = el ∙ ap (λ y. sooner y b) (ea ∙ first_is ends.part.pending) ∙ ap (sooner (rounds.first_time (view kind w owners p) ends.part.pending)) (eb ∙ ap earliest ee ∙ earliest_is ends.part.out);
    idle = ed ∙ ap (part_idle kind) ex;
    lines = el2;
    batches = subst (λ (s : Standing S L). AreBatches w owners parts s.part.out bs) em batches;
    piece = handed;
  }

-- the same told in other words
pub tells_same : {S L : Type 0} (kind : Kind S L) (m : Meaning S L) (r : RunSpec) (giver taker number : ℕ) (n n' : Option ℕ) (b b' : Bool) (es es' : List (Event L)) (ls ls' : List Line) → n ≡ n' → b ≡ b' → es ≡ es' → ls ≡ ls' → Tells kind m r giver taker number n b es ls → Tells kind m r giver taker number n' b' es' ls'
tells_same kind m r giver taker number n n' b b' es es' ls ls' en eb ee el t = record {
  real = t.real;
  next = λ l d. sym en ∙ t.next l d;
  done = λ l d. sym eb ∙ t.done l d;
  events = λ l d. sym ee ∙ t.events l d;
  lines = λ l d. sym el ∙ t.lines l d;
}

get_back : {A : Type 0} (xs : List A) (x : A) (q : ℕ) → q < length xs → slice_get (xs ++ x ∷ []) q ≡ slice_get xs q
get_back [] x q h = absurd (omega arith)
get_back (y ∷ xs) x zero h = refl
get_back (y ∷ xs) x (suc q) h = get_back xs x q (omega (arith, h))

get_last : {A : Type 0} (xs : List A) (x : A) (q : ℕ) → q ≡ length xs → slice_get (xs ++ x ∷ []) q ≡ Some x
get_last [] x zero h = refl
get_last [] x (suc q) h = absurd (omega (arith, h))
get_last (y ∷ xs) x zero h = absurd (omega (arith, h))
get_last (y ∷ xs) x (suc q) h = get_last xs x q (omega (arith, h))

length_back : {A : Type 0} (xs : List A) (x : A) → length (xs ++ x ∷ []) ≡ length xs + 1
length_back [] x = refl
length_back (y ∷ xs) x = let a = length_back xs x in omega (arith, a)

-- one name more, the giver's own or not
pub named_more : (r : RunSpec) (p number upto : ℕ) (names : List (Option Name)) (x : Option Name) → AreNamed r p number upto names → ((upto ≡ p → ⊥) → x ≡ Some (named r p upto number)) → AreNamed r p number (upto + 1) (names ++ x ∷ [])
named_more r p number upto names x a h = record {
  count = length_back names x ∙ ap (λ n. n + 1) a.count;
  each = λ q lt ne. elim (cases_eq q upto) [
    | inl e ↦ get_last names x q (e ∙ sym a.count) ∙ ap (λ y. Some y) (h (λ z. ne (e ∙ z))) ∙ ap (λ z. Some (Some (named r p z number))) (sym e)
    | inr other ↦ get_back names x q (omega (arith, lt, other, a.count)) ∙ a.each q (omega (arith, lt, other)) ne
  ];
}

map_push : {A B : Type 0} (f : A → B) (xs new : List A) (x : A) → new ≡ xs ++ x ∷ [] → map f new ≡ map f xs ++ f x ∷ []
map_push {A} {B} f xs new x e = ap (map f) e ∙ go xs where
  go : (ys : List A) → map f (ys ++ x ∷ []) ≡ map f ys ++ f x ∷ []
  go [] = refl
  go (y ∷ ys) = ap (λ l. f y ∷ l) (go ys)

pub names_push : {A : Type 0} (f : A → Option Name) (r : RunSpec) (p number upto : ℕ) (xs new : List A) (x : A) → new ≡ xs ++ x ∷ [] → AreNamed r p number upto (map f xs) → ((upto ≡ p → ⊥) → f x ≡ Some (named r p upto number)) → AreNamed r p number (upto + 1) (map f new)
names_push f r p number upto xs new x e a h = subst (λ ns. AreNamed r p number (upto + 1) ns) (sym (map_push f xs new x e)) (named_more r p number upto (map f xs) (f x) a h)

pub others_stay : {V X : Type 0} (f : V → List X) (bs : List V) (i q : ℕ) (v : V) → i + 1 ≤ q → slice_index_or (map f (slice_set bs i v)) q [] ≡ slice_index_or (map f bs) q []
others_stay f bs i q v h = ap (λ l. slice_index_or l q []) (set_map f bs i v) ∙ get_or-set_other (map f bs) i q (f v) [] (λ e. omega (arith, e, h))

pub if_same : {X : Type 0} (q : ℕ) (a b : List X) → (q ≡ 0 → a ≡ b) → (if q == 0 then a else []) ≡ (if q == 0 then b else [])
if_same {X} q a b h = go (eqb q 0) refl where
  go : (t : Bool) → eqb q 0 ≡ t → cond t a [] ≡ cond t b []
  go true e = h (eqb-true q 0 e)
  go false e = refl

-- and handed over
pub hands_same : {S L : Type 0} (kind : Kind S L) (saving : Saving S L) (m : Meaning S L) (r : RunSpec) (giver taker number : ℕ) (o o' : Option Slip) → o ≡ o' → Hands kind saving m r giver taker number o → Hands kind saving m r giver taker number o'
hands_same kind saving m r giver taker number o o' e h = subst (Hands kind saving m r giver taker number) e h

pub none_same : (q : ℕ) (a b : Option Slip) → (q ≡ 0 → a ≡ b) → (if q == 0 then a else None) ≡ (if q == 0 then b else None)
none_same q a b h = go (eqb q 0) refl where
  go : (t : Bool) → eqb q 0 ≡ t → cond t a None ≡ cond t b None
  go true e = h (eqb-true q 0 e)
  go false e = refl
