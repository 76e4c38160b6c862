-- How what is done one after another ends, from how its parts end.
use Rattle.std.proofs.Common.{◌≡◌, ℕ, suc, ◌+◌, ◌<◌, ◌≤◌, List, [], ◌∷◌, ◌++◌, map, flat_map, length, get_or, take, drop, Option, Some, None, Result, Ok, Err, refl, ap, sym, ◌∙◌, subst, arith, inl, inr, append_assoc, append-nil}
use Rattle.ss_wire.specs.Wire.{IsBytes}
use Rattle.std.proofs.lemmas.List.{take_more, take_all, take-append-drop}
use Rattle.std.proofs.lemmas.Grind.{flat_map-append}
use Rattle.std.proofs.Math.Seq.{drop-cons}
use Rattle.std.proofs.lemmas.List.Elements.{All-append, All-nil}
use Rattle.ss_edge.specs.Edge.{Rose, TookSome, more}
use Rattle.ss_safe.specs.Kept.Found.{none_some}
use Rattle.ss_model.specs.declared.Line.{Line}
use Rattle.ss_model.specs.End.{text_of}
use Rattle.ss_graph.specs.declared.graph.Graph.{Graph}
use Rattle.ss_graph.specs.declared.fault.LimitKind.{LimitKind}
use Rattle.ss_compose.specs.Compose.{composed}
use Rattle.ss_course.specs.Kept.{passed}
use Rattle.ss_top.specs.Answer.{Step, write, put, save_name}
use Rattle.ss_top.specs.Headline.{Outside, Seen, after_step, after_steps, InPart, Blames, ErrTook, Counted}
use Rattle.ss_top.specs.Doing.{Act, Doing, Does, Done, FailsIn, StarvesIn, closed_by, doing, next_to, prints, printing, saves, saving_unless}
use Rattle.ss_top.specs.declared.doing.Stop.{Stop}
use Rattle.ss_top.specs.declared.doing.Stop.TheVariants as stopped

-- ---- steps

pub steps-both : (xs ys : List Step) (o : Outside) → after_steps (xs ++ ys) o ≡ after_steps ys (after_steps xs o)
steps-both [] ys o = refl
steps-both (x ∷ xs) ys o = steps-both xs ys (after_step x o)

rose_since : (a b c : ℕ) → a ≤ b → b ≤ c → Rose b c → Rose a c
rose_since a b c h k r = grind arith

module _ (old mid new : Seen) (quiet : mid.err ≡ old.err) (before : Counted old mid) (behind : Counted mid new) where
  err_since : (text : List ℕ) → ErrTook text mid new → ErrTook text old new
  err_since text (inl e) = inl (e ∙ ap (more text) quiet)
  err_since text (inr h) = inr (rose_since old.err_faults mid.err_faults new.err_faults before.err behind.err h.0, subst (λ (o : Option (List ℕ)). TookSome text o new.err) quiet h.1)

  blamed_since : (s : Step) → Blames s mid new → Blames s old new
  blamed_since (write bytes) h = (rose_since old.out_faults mid.out_faults new.out_faults before.out behind.out h.0, err_since _ h.1)
  blamed_since (put name bytes) h = (rose_since (old.put_faults name) (mid.put_faults name) (new.put_faults name) (before.puts name) (behind.puts name) h.0, err_since _ h.1)

  module _ (xs ys : List Step) (done : mid.outside ≡ after_steps xs old.outside) where
    fails_then : FailsIn ys mid new → FailsIn (xs ++ ys) old new
    fails_then f = record {
      front = xs ++ f.front;
      step = f.step;
      rest = f.rest;
      steps = ap (λ zs. xs ++ zs) f.steps ∙ sym (append_assoc xs f.front (f.step ∷ f.rest));
      part = subst (λ (o : Outside). InPart f.step o new.outside) (ap (after_steps f.front) done ∙ sym (steps-both xs f.front old.outside)) f.part;
      blamed = blamed_since f.step f.blamed;
    }

    starves_then : StarvesIn ys mid new → StarvesIn (xs ++ ys) old new
    starves_then f = record {
      front = xs ++ f.front;
      rest = f.rest;
      steps = ap (λ zs. xs ++ zs) f.steps ∙ sym (append_assoc xs f.front f.rest);
      done = f.done ∙ ap (after_steps f.front) done ∙ sym (steps-both xs f.front old.outside);
      err = err_since _ f.err;
    }

fails_first : (xs ys : List Step) (old new : Seen) → FailsIn xs old new → FailsIn (xs ++ ys) old new
fails_first xs ys old new f = record {
  front = f.front;
  step = f.step;
  rest = f.rest ++ ys;
  steps = ap (λ zs. zs ++ ys) f.steps ∙ append_assoc f.front (f.step ∷ f.rest) ys;
  part = f.part;
  blamed = f.blamed;
}

starves_first : (xs ys : List Step) (old new : Seen) → StarvesIn xs old new → StarvesIn (xs ++ ys) old new
starves_first xs ys old new f = record {
  front = f.front;
  rest = f.rest ++ ys;
  steps = ap (λ zs. zs ++ ys) f.steps ∙ append_assoc f.front f.rest ys;
  done = f.done;
  err = f.err;
}

-- ---- what is done, and then what comes next to it

counted_on : (old mid new : Seen) → Counted old mid → Counted mid new → Counted old new
counted_on old mid new h k = record {
  reads = λ n. let a = h.reads n in let b = k.reads n in omega (arith, a, b);
  puts = λ n. let a = h.puts n in let b = k.puts n in omega (arith, a, b);
  out = omega (arith, h.out, k.out);
  err = omega (arith, h.err, k.err);
}

module _ (c d : Doing) (old mid new : Seen) (done : Done c old mid) (before : Counted old mid) (behind : Counted mid new) where
  abbrev both : Doing
  both = closed_by None c d

  done_both : Done d mid new → Done both old new
  done_both k = record {
    done = k.done ∙ ap (after_steps d.steps) done.done ∙ sym (steps-both c.steps d.steps old.outside);
    bytes = All-append IsBytes c.kept d.kept done.bytes k.bytes;
    quiet = k.quiet ∙ done.quiet;
  }

  does_both : (r : Result (Unit {0}) Stop) → Does d mid new r → Does both old new r
  does_both (Ok u) k = (done_both k.0, k.1)
  does_both (Err (stopped.Limit kind n)) k = (done_both k.0, k.1)
  does_both (Err stopped.WriteFault) k = fails_then old mid new done.quiet before behind c.steps d.steps done.done k
  does_both (Err stopped.NoMemory) k = starves_then old mid new done.quiet before behind c.steps d.steps done.done k

  pub does_next : (r : Result (Unit {0}) Stop) → c.stop ≡ None → Does d mid new r → Does (next_to c d) old new r
  does_next r e k = subst (λ (o : Option (LimitKind × ℕ)). Does (closed_by o c d) old new r) (sym e) (does_both r k)

module _ (c d : Doing) (old new : Seen) where
  first_by : (o : Option (LimitKind × ℕ)) → c.stop ≡ o → (e : Stop) → Does c old new (Err e) → Does (closed_by o c d) old new (Err e)
  first_by (Some l) s e k = k
  first_by None s (stopped.Limit kind n) k = absurd (none_some (sym s ∙ k.1))
  first_by None s stopped.WriteFault k = fails_first c.steps d.steps old new k
  first_by None s stopped.NoMemory k = starves_first c.steps d.steps old new k

  -- what ends the first ends both
  pub does_first : (e : Stop) → Does c old new (Err e) → Does (next_to c d) old new (Err e)
  does_first e k = first_by c.stop refl e k

-- ---- acts

-- how many checkpoints there are behind acts
abbrev pub count_behind : ℕ → List Act → ℕ
count_behind count [] = count
count_behind count (prints ls ∷ acts) = count_behind count acts
count_behind count (saves t ps ∷ acts) = count_behind (suc count) acts

pub count-both : (xs ys : List Act) (count : ℕ) → count_behind count (xs ++ ys) ≡ count_behind (count_behind count xs) ys
count-both [] ys count = refl
count-both (prints ls ∷ xs) ys count = count-both xs ys count
count-both (saves t ps ∷ xs) ys count = count-both xs ys (suc count)

prints_both : (o : Option (LimitKind × ℕ)) (c d : Doing) (ls : List Line) → printing ls (closed_by o c d) ≡ closed_by o (printing ls c) d
prints_both None c d ls = ap (λ xs. record { steps = xs; kept = c.kept ++ d.kept; stop = d.stop }) (sym (append_assoc (map write (map text_of ls)) c.steps d.steps))
prints_both (Some l) c d ls = refl

saves_both : (o p : Option (LimitKind × ℕ)) (c d : Doing) (name bytes : List ℕ) → c.stop ≡ o → saving_unless p name bytes (closed_by o c d) ≡ next_to (saving_unless p name bytes c) d
saves_both None None c d name bytes e = ap (λ (q : Option (LimitKind × ℕ)). closed_by q (record { steps = put name bytes ∷ c.steps; kept = bytes ∷ c.kept; stop = c.stop }) d) (sym e)
saves_both (Some l) None c d name bytes e = ap (λ (q : Option (LimitKind × ℕ)). closed_by q (record { steps = put name bytes ∷ c.steps; kept = bytes ∷ c.kept; stop = c.stop }) d) (sym e)
saves_both o (Some l) c d name bytes e = refl

pub doing-both : (prefix : List ℕ) (g : Graph) (xs ys : List Act) (count : ℕ) → doing prefix g count (xs ++ ys) ≡ next_to (doing prefix g count xs) (doing prefix g (count_behind count xs) ys)
doing-both prefix g [] ys count = refl
doing-both prefix g (prints ls ∷ xs) ys count = ap (printing ls) (doing-both prefix g xs ys count) ∙ prints_both (doing prefix g count xs).stop (doing prefix g count xs) (doing prefix g (count_behind count xs) ys) ls
doing-both prefix g (saves t ps ∷ xs) ys count =
    let p = passed count (length (composed g t ps)) in
    let c = doing prefix g (suc count) xs in
    let d = doing prefix g (count_behind (suc count) xs) ys in
    ap (saving_unless p (save_name prefix t) (composed g t ps)) (doing-both prefix g xs ys (suc count)) ∙ saves_both c.stop p c d (save_name prefix t) (composed g t ps) refl

module _ (prefix : List ℕ) (g : Graph) (count : ℕ) where
  -- acts were done, and no limit ended them
  pub record SoFar (acts : List Act) (old new : Seen) : Type 0 where
    pub done : Done (doing prefix g count acts) old new
    pub goes : (doing prefix g count acts).stop ≡ None
    pub counted : Counted old new

  pub none_so_far : (old : Seen) → SoFar [] old old
  none_so_far old = record {
    done = record { done = refl; bytes = All-nil IsBytes; quiet = refl };
    goes = refl;
    counted = record { reads = λ n. omega arith; puts = λ n. omega arith; out = omega arith; err = omega arith };
  }

  module _ (front one : List Act) (old mid new : Seen) (n : ℕ) (is : n ≡ count_behind count front) (so_far : SoFar front old mid) (counted : Counted mid new) where
    does_on : (r : Result (Unit {0}) Stop) → Does (doing prefix g n one) mid new r → Does (doing prefix g count (front ++ one)) old new r
    does_on r k =
        subst (λ (d : Doing). Does d old new r) (sym (doing-both prefix g front one count))
        (does_next (doing prefix g count front) (doing prefix g (count_behind count front) one) old mid new so_far.done so_far.counted counted r so_far.goes
        (subst (λ (m : ℕ). Does (doing prefix g m one) mid new r) is k))

    pub goes_on : (u : Unit {0}) → Does (doing prefix g n one) mid new (Ok u) → SoFar (front ++ one) old new
    goes_on u k = let h : Does (doing prefix g count (front ++ one)) old new (Ok u) = does_on (Ok u) k in record {
      done = h.0;
      goes = h.1;
      counted = counted_on old mid new so_far.counted counted;
    }

    pub ends_here : (rest : List Act) (e : Stop) → Does (doing prefix g n one) mid new (Err e) → Does (doing prefix g count ((front ++ one) ++ rest)) old new (Err e)
    ends_here rest e k =
        subst (λ (d : Doing). Does d old new (Err e)) (sym (doing-both prefix g (front ++ one) rest count))
        (does_first (doing prefix g count (front ++ one)) (doing prefix g (count_behind count (front ++ one)) rest) old new e (does_on (Err e) k))

-- ---- acts of the items of a list

module _ {X : Type 0} (f : X → List Act) (xs : List X) (i : ℕ) (x : X) (at : i < length xs) (is : x ≡ get_or xs i x) where
  pub acts_more : flat_map f (take (i + 1) xs) ≡ flat_map f (take i xs) ++ f x
  acts_more =
      ap (flat_map f) (take_more xs i x at ∙ ap (λ y. take i xs ++ y ∷ []) (sym is)) ∙ flat_map-append f (take i xs) (x ∷ []) ∙ ap (λ ys. flat_map f (take i xs) ++ ys) (append-nil (f x))

  pub acts_split : flat_map f xs ≡ (flat_map f (take i xs) ++ f x) ++ flat_map f (drop (suc i) xs)
  acts_split =
      let rest : drop i xs ≡ x ∷ drop (suc i) xs = drop-cons xs i x at ∙ ap (λ y. y ∷ drop (suc i) xs) (sym is) in
      ap (flat_map f) (sym (take-append-drop i xs) ∙ ap (λ ys. take i xs ++ ys) rest) ∙ flat_map-append f (take i xs) (x ∷ drop (suc i) xs) ∙ sym (append_assoc (flat_map f (take i xs)) (f x) (flat_map f (drop (suc i) xs)))

module _ (prefix : List ℕ) (g : Graph) (count : ℕ) {X : Type 0} (f : X → List Act) (xs : List X) (i : ℕ) (x : X) (at : i < length xs) (is : x ≡ get_or xs i x) (n : ℕ) (now : n ≡ count_behind count (flat_map f (take i xs))) where
  pub count_next : count_behind n (f x) ≡ count_behind count (flat_map f (take (i + 1) xs))
  count_next = ap (λ m. count_behind m (f x)) now ∙ sym (count-both (flat_map f (take i xs)) (f x) count) ∙ sym (ap (count_behind count) (acts_more f xs i x at is))

  module _ (old mid new : Seen) (so_far : SoFar prefix g count (flat_map f (take i xs)) old mid) (counted : Counted mid new) where
    pub item_done : (u : Unit {0}) → Does (doing prefix g n (f x)) mid new (Ok u) → SoFar prefix g count (flat_map f (take (i + 1) xs)) old new
    item_done u h = subst (λ (acts : List Act). SoFar prefix g count acts old new) (sym (acts_more f xs i x at is)) (goes_on prefix g count (flat_map f (take i xs)) (f x) old mid new n now so_far counted u h)

    pub item_stops : (all : List Act) → flat_map f xs ≡ all → (e : Stop) (r : Result (Unit {0}) Stop) → r ≡ Err e → Does (doing prefix g n (f x)) mid new (Err e) → Does (doing prefix g count all) old new r
    item_stops all same e r why h =
        subst (λ (r : Result (Unit {0}) Stop). Does (doing prefix g count all) old new r) (sym why)
        (subst (λ (acts : List Act). Does (doing prefix g count acts) old new (Err e)) (sym (acts_split f xs i x at is) ∙ same)
        (ends_here prefix g count (flat_map f (take i xs)) (f x) old mid new n now so_far counted (flat_map f (drop (suc i) xs)) e h))

-- all of them were done
pub items_done : (prefix : List ℕ) (g : Graph) (count : ℕ) {X : Type 0} (f : X → List Act) (xs : List X) (i : ℕ) (all : List Act) (old new : Seen) (u : Unit {0}) → length xs ≤ i → flat_map f xs ≡ all → SoFar prefix g count (flat_map f (take i xs)) old new → Does (doing prefix g count all) old new (Ok u)
items_done prefix g count f xs i all old new u h same s =
    let k : SoFar prefix g count all old new = subst (λ (acts : List Act). SoFar prefix g count acts old new) (ap (flat_map f) (take_all i xs h) ∙ same) s in
    (k.done, k.goes)
