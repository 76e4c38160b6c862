-- Texts that are written one by one.
use Rattle.std.proofs.Common.{◌≡◌, ℕ, suc, ◌+◌, ◌<◌, List, [], ◌∷◌, ◌++◌, map, length, get_or, take, drop, Option, refl, ap, sym, ◌∙◌, subst, append_assoc}
use Rattle.std.proofs.lemmas.List.{take_more, map-append, take-append-drop}
use Rattle.std.proofs.Math.Seq.{drop-cons}
use Rattle.ss_edge.specs.Edge.{more, TookSome}
use Rattle.ss_top.specs.Printing.{more_all, StopsIn}

pub more_all-append : (ts us : List (List ℕ)) (o : Option (List ℕ)) → more_all (ts ++ us) o ≡ more_all us (more_all ts o)
more_all-append [] us o = refl
more_all-append (t ∷ ts) us o = more_all-append ts us (more t o)

module _ {X : Type 0} (text : X → List ℕ) (xs : List X) (i : ℕ) (x : X) (b : List ℕ) (o m n : Option (List ℕ)) where
  pub texts_next : i < length xs → x ≡ get_or xs i x → b ≡ text x → m ≡ more_all (map text (take i xs)) o → n ≡ more b m → n ≡ more_all (map text (take (i + 1) xs)) o
  texts_next h e f g k =
      let more_items : take (i + 1) xs ≡ take i xs ++ x ∷ [] = take_more xs i x h ∙ ap (λ y. take i xs ++ y ∷ []) (sym e) in
      let more_texts : map text (take (i + 1) xs) ≡ map text (take i xs) ++ text x ∷ [] = ap (map text) more_items ∙ map-append text (take i xs) (x ∷ []) in
      k ∙ ap (λ y. more y m) f ∙ ap (more (text x)) g ∙ sym (ap (λ ts. more_all ts o) more_texts ∙ more_all-append (map text (take i xs)) (text x ∷ []) o)

  pub texts_stop : i < length xs → x ≡ get_or xs i x → b ≡ text x → m ≡ more_all (map text (take i xs)) o → TookSome b m n → StopsIn (map text xs) o n
  texts_stop h e f g t =
      let rest : drop i xs ≡ x ∷ drop (suc i) xs = drop-cons xs i x h ∙ ap (λ y. y ∷ drop (suc i) xs) (sym e) in
      let split : xs ≡ take i xs ++ x ∷ drop (suc i) xs = sym (take-append-drop i xs) ∙ ap (λ ys. take i xs ++ ys) rest in
      record {
        front = map text (take i xs);
        text = text x;
        rest = map text (drop (suc i) xs);
        whole = ap (map text) split ∙ map-append text (take i xs) (x ∷ drop (suc i) xs);
        took = subst (λ (y : Option (List ℕ)). TookSome (text x) y n) g (subst (λ (y : List ℕ). TookSome y m n) f t);
      }

pub stops_first : (ts us : List (List ℕ)) (o n : Option (List ℕ)) → StopsIn ts o n → StopsIn (ts ++ us) o n
stops_first ts us o n s = record {
  front = s.front;
  text = s.text;
  rest = s.rest ++ us;
  whole = ap (λ xs. xs ++ us) s.whole ∙ append_assoc s.front (s.text ∷ s.rest) us;
  took = s.took;
}

pub stops_last : (ts : List (List ℕ)) (t b : List ℕ) (o m n : Option (List ℕ)) → m ≡ more_all ts o → b ≡ t → TookSome b m n → StopsIn (ts ++ t ∷ []) o n
stops_last ts t b o m n e f k = record {
  front = ts;
  text = t;
  rest = [];
  whole = refl;
  took = subst (λ (y : Option (List ℕ)). TookSome t y n) e (subst (λ (y : List ℕ). TookSome y m n) f k);
}

pub all_last : (ts : List (List ℕ)) (t b : List ℕ) (o m n : Option (List ℕ)) → m ≡ more_all ts o → b ≡ t → n ≡ more b m → n ≡ more_all (ts ++ t ∷ []) o
all_last ts t b o m n e f k = k ∙ ap (λ y. more y m) f ∙ ap (more t) e ∙ sym (more_all-append ts (t ∷ []) o)
