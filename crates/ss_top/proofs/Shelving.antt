-- Texts that are put or written one by one, as steps.
use Rattle.std.proofs.Common.{◌≡◌, ℕ, suc, ◌+◌, ◌<◌, ◌≤◌, List, [], ◌∷◌, ◌++◌, map, length, get_or, take, drop, Option, Result, Err, refl, ap, sym, ◌∙◌, subst, arith}
use Rattle.std.proofs.lemmas.List.{take_more, take_all, map-append, take-append-drop}
use Rattle.std.proofs.lemmas.List.Elements.{All-nil}
use Rattle.std.proofs.Math.Seq.{drop-cons}
use Rattle.ss_wire.specs.Wire.{IsBytes}
use Rattle.ss_edge.specs.Edge.{Contents, Rose, PartlyPut, TookSome, more, with_entry}
use Rattle.ss_top.specs.Answer.{Step, write, put_of, line}
use Rattle.ss_top.specs.Message.{message_text}
use Rattle.ss_top.specs.Printing.{Told, StopsIn, more_all}
use Rattle.ss_top.specs.Headline.{Counted, Outside, Seen, seen, after_step, after_steps, InPart, Blames}
use Rattle.ss_top.specs.Doing.{Doing, Does, Done, FailsIn, filing, listing, next_to}
use Rattle.ss_top.specs.Simulate.{puts_by, put_by}
use Rattle.ss_top.specs.declared.doing.Stop.{Stop}
use Rattle.ss_top.specs.declared.doing.Stop.TheVariants as stopped
use Rattle.ss_top.specs.declared.print.Message.TheVariants as message
use Rattle.ss_top.specs.declared.sheets.Sheet.{Sheet}
use Rattle.ss_top.proofs.Onward.{does_next, steps-both}

-- ---- steps of the items of a list

module _ {X : Type 0} (f : X → Step) (xs : List X) (i : ℕ) (x : X) (at : i < length xs) (is : x ≡ get_or xs i x) where
  step_more : map f (take (i + 1) xs) ≡ map f (take i xs) ++ f x ∷ []
  step_more = ap (map f) (take_more xs i x at ∙ ap (λ y. take i xs ++ y ∷ []) (sym is)) ∙ map-append f (take i xs) (x ∷ [])

  step_split : map f xs ≡ map f (take i xs) ++ f x ∷ map f (drop (suc i) xs)
  step_split =
      let rest : drop i xs ≡ x ∷ drop (suc i) xs = drop-cons xs i x at ∙ ap (λ y. y ∷ drop (suc i) xs) (sym is) in
      ap (map f) (sym (take-append-drop i xs) ∙ ap (λ ys. take i xs ++ ys) rest) ∙ map-append f (take i xs) (x ∷ drop (suc i) xs)

  -- one step more was done
  pub step_done : (old mid new : Outside) → mid ≡ after_steps (map f (take i xs)) old → new ≡ after_step (f x) mid → new ≡ after_steps (map f (take (i + 1) xs)) old
  step_done old mid new e k = k ∙ ap (after_step (f x)) e ∙ sym (ap (λ ss. after_steps ss old) step_more ∙ steps-both (map f (take i xs)) (f x ∷ []) old)

  -- it failed
  pub step_fails : (old new : Seen) (mid : Outside) (all : List Step) → map f xs ≡ all → mid ≡ after_steps (map f (take i xs)) old.outside → InPart (f x) mid new.outside → Blames (f x) old new → FailsIn all old new
  step_fails old new mid all same e p b = record {
    front = map f (take i xs);
    step = f x;
    rest = map f (drop (suc i) xs);
    steps = sym same ∙ step_split;
    part = subst (λ (o : Outside). InPart (f x) o new.outside) e p;
    blamed = b;
  }

-- ---- sheets

abbrev pub sheet_step : Sheet → Step
sheet_step s = put_of (put_by s)

pub sheet-steps : (ss : List Sheet) → map sheet_step ss ≡ map put_of (puts_by ss)
sheet-steps [] = refl
sheet-steps (s ∷ ss) = ap (λ xs. sheet_step s ∷ xs) (sheet-steps ss)

abbrev pub outside_of : Option Contents → Option (List ℕ) → Outside
outside_of held out = record { held = held; out = out }

module _ (ss : List Sheet) (i : ℕ) (s : Sheet) (at : i < length ss) (is : s ≡ get_or ss i s) (old mid new : Option Contents) (out : Option (List ℕ)) (name text : List ℕ) (named : name ≡ s.name) (made : text ≡ s.text.items) where
  pub sheet_put : outside_of mid out ≡ after_steps (map sheet_step (take i ss)) (outside_of old out) → new ≡ with_entry name text mid → outside_of new out ≡ after_steps (map sheet_step (take (i + 1) ss)) (outside_of old out)
  sheet_put so_far e = step_done sheet_step ss i s at is (outside_of old out) (outside_of mid out) (outside_of new out) so_far (ap (λ (h : Option Contents). outside_of h out) (e ∙ ap (λ x. with_entry x text mid) named ∙ ap (λ x. with_entry s.name x mid) made))

  pub sheet_failed : (reads reads' puts puts' : List ℕ → ℕ) (outs : ℕ) (err err' : Option (List ℕ)) (errs errs' : ℕ) (told : List ℕ) → outside_of mid out ≡ after_steps (map sheet_step (take i ss)) (outside_of old out) → PartlyPut name text mid new → Rose (puts name) (puts' name)
      → told ≡ name → Told (line (message_text message.WriteFault ++ told)) err err' errs errs' → Does (filing (puts_by ss)) (seen old reads puts out outs err errs) (seen new reads' puts' out outs err' errs') (Err stopped.WriteFault)
  sheet_failed reads reads' puts puts' outs err err' errs errs' told so_far p r e t =
      step_fails sheet_step ss i s at is (seen old reads puts out outs err errs) (seen new reads' puts' out outs err' errs') (outside_of mid out) (map put_of (puts_by ss)) (sheet-steps ss) so_far
      (subst (λ x. PartlyPut s.name x mid new) made (subst (λ x. PartlyPut x text mid new) named p), refl)
      (subst (λ x. Rose (puts x) (puts' x)) named r, subst (λ (x : List ℕ). Told (line (message_text message.WriteFault ++ x)) err err' errs errs') (e ∙ named) t)

pub sheets_put : (ss : List Sheet) (i : ℕ) (old new : Seen) → length ss ≤ i → new.outside ≡ after_steps (map sheet_step (take i ss)) old.outside → new.err ≡ old.err → Done (filing (puts_by ss)) old new
sheets_put ss i old new h e q = record {
  done = e ∙ ap (λ steps. after_steps steps old.outside) (ap (map sheet_step) (take_all i ss h) ∙ sheet-steps ss);
  bytes = All-nil IsBytes;
  quiet = q;
}

-- ---- texts

writes_all : (ts : List (List ℕ)) (held : Option Contents) (out : Option (List ℕ)) → outside_of held (more_all ts out) ≡ after_steps (map write ts) (outside_of held out)
writes_all [] held out = refl
writes_all (t ∷ ts) held out = writes_all ts held (more t out)

module _ (ts : List (List ℕ)) (held : Option Contents) (reads puts : List ℕ → ℕ) (out out' : Option (List ℕ)) (outs outs' : ℕ) (err : Option (List ℕ)) (errs : ℕ) where
  pub texts_done : out' ≡ more_all ts out → Done (listing ts) (seen held reads puts out outs err errs) (seen held reads puts out' outs' err errs)
  texts_done e = record {
    done = ap (outside_of held) e ∙ writes_all ts held out;
    bytes = All-nil IsBytes;
    quiet = refl;
  }

  pub texts_fail : (err' : Option (List ℕ)) (errs' : ℕ) → StopsIn ts out out' → Rose outs outs' → Told (line (message_text message.OutputFault)) err err' errs errs' → FailsIn (listing ts).steps (seen held reads puts out outs err errs) (seen held reads puts out' outs' err' errs')
  texts_fail err' errs' s r t = record {
    front = map write s.front;
    step = write s.text;
    rest = map write s.rest;
    steps = ap (map write) s.whole ∙ map-append write s.front (s.text ∷ s.rest);
    part = (subst (λ (o : Outside). TookSome s.text o.out out') (writes_all s.front held out) s.took, ap (λ (o : Outside). o.held) (writes_all s.front held out));
    blamed = (r, t);
  }

-- ---- one text, and what comes behind it

module _ (t b : List ℕ) (held : Option Contents) (reads puts : List ℕ → ℕ) (out out' : Option (List ℕ)) (outs outs' : ℕ) (err : Option (List ℕ)) (errs : ℕ) (is : b ≡ t) (d : Doing) where
  pub text_fails : (err' : Option (List ℕ)) (errs' : ℕ) → TookSome b out out' → Rose outs outs' → Told (line (message_text message.OutputFault)) err err' errs errs' → FailsIn (write t ∷ d.steps) (seen held reads puts out outs err errs) (seen held reads puts out' outs' err' errs')
  text_fails err' errs' s r k = record {
    front = [];
    step = write t;
    rest = d.steps;
    steps = refl;
    part = (subst (λ (x : List ℕ). TookSome x out out') is s, refl);
    blamed = (r, k);
  }

  pub text_done : (new : Seen) → out' ≡ more b out → outs ≤ outs' → Counted (seen held reads puts out' outs' err errs) new → (r : Result (Unit {0}) Stop) → Does d (seen held reads puts out' outs' err errs) new r → Does (next_to (listing (t ∷ [])) d) (seen held reads puts out outs err errs) new r
  text_done new e h behind r k =
      does_next (listing (t ∷ [])) d (seen held reads puts out outs err errs) (seen held reads puts out' outs' err errs) new
      (texts_done (t ∷ []) held reads puts out out' outs outs' err errs (e ∙ ap (λ x. more x out) is))
      (record { reads = λ n. omega arith; puts = λ n. omega arith; out = h; err = omega arith }) behind r refl k
