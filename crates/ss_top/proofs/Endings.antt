-- How a call ends, from how its parts end.
use Rattle.std.proofs.Common.{◌≡◌, ℕ, ◌+◌, ◌<◌, ◌≤◌, List, [], ◌∷◌, ◌++◌, length, Option, Some, None, Ok, Err, Result, Bool, true, false, refl, ap, sym, ◌∙◌, subst, arith, inl, inr, ◌⊎◌, nat_lt}
use Rattle.std.proofs.lemmas.Bool.Decides.{nat_tests}
use Rattle.std.specs.Ordering.{nat_cmp, eq_by_cmp, is_eq}
use Rattle.std.specs.Cmp.{tied_itself}
use Rattle.std.specs.Cmp.Lexicographic.{slice_cmp, nat_list_cmp_total}
use Rattle.std.specs.FinMap.{empty, get, insert, get-insert}
use Rattle.std.proofs.Common.{cond, append-nil}
use Rattle.std.specs.List.{All}
use Rattle.ss_safe.specs.Kept.Found.{none_some, some_same}
use Rattle.ss_wire.specs.Wire.{IsBytes}
use Rattle.ss_edge.specs.Edge.{Contents, more, Kept as KeptCount, Rose, TookSome}
use Rattle.ss_cmd.specs.declared.Plan.{Plan}
use Rattle.ss_cmd.specs.declared.Usage.{Usage}
use Rattle.ss_cmd.specs.declared.Usage.TheVariants as usage
use Rattle.ss_cmd.specs.Grammar.{plan_by}
use Rattle.ss_ckpt.specs.declared.fault.CkptFault.{CkptFault}
use Rattle.ss_ckpt.specs.declared.fault.CkptFault.TheVariants as form
use Rattle.ss_restart.specs.declared.fault.RestartFault.{RestartFault}
use Rattle.ss_restart.specs.declared.fault.RestartFault.TheVariants as state
use Rattle.ss_graph.specs.declared.graph.Graph.{Graph}
use Rattle.ss_graph.specs.declared.fault.LimitKind.{LimitKind}
use Rattle.ss_graph.specs.declared.fault.LimitKind.TheVariants as limit
use Rattle.ss_course.specs.Kept.{Kept}
use Rattle.ss_printed.specs.Printed.{allowed, rest_in}
use Rattle.ss_top.specs.Message.{message_text, fault_line, limit_line, misspelled_line, unsound_line}
use Rattle.ss_top.specs.declared.print.Message.TheVariants as message
use Rattle.ss_top.specs.Judge.{Judged, not_text, at_fault, past_limit, misspelled, unsound, accepted}
use Rattle.ss_top.specs.Simulate.{judged_by, misspelled_by, unsound_by, IsRefusal, status_of, line_of, cuts_by, kept_by, stop_of, closing_by, doing_by, puts_by, Closes, IsPrinted}
use Rattle.ss_top.specs.declared.printed.End.{End}
use Rattle.ss_top.specs.declared.printed.End.TheVariants as end
use Rattle.ss_top.specs.declared.printed.Printed.{Printed}
use Rattle.ss_top.specs.declared.refusal.Refusal.{Refusal}
use Rattle.ss_top.specs.declared.refusal.Refusal.TheVariants as refusal
use Rattle.ss_top.specs.Answer.{Step, write, put, Answer, Answers, Asks, AsksOf, AnswersPlan, AnswersPlanned, AsksPlanned, AnswersEntry, AnswersBytes, AnswersSized, AnswersRead, entry_name, usage_text, usage_line, usage_status, line, ran, limited, whole, most_of, size_limit}
use Rattle.ss_top.specs.Answer as answer
use Rattle.ss_top.specs.Printing.{Told}
use Rattle.ss_top.specs.Reading.{Holds}
use Rattle.ss_top.specs.Writing.{EndsAs}
use Rattle.ss_top.specs.Doing.{Doing, Done, FailsIn, StarvesIn, EndsIn, acts_in, closed_by, closing, doing, listing, next_to}
use Rattle.ss_top.specs.Left.{Working, Leaves, LeavesRead, LeavesEntry, LeavesPlan}
use Rattle.ss_top.specs.Spreading.{too_many_threads}
use Rattle.ss_top.specs.Headline.{Outside, Seen, seen, Stands, after_step, after_steps, InPart, ErrTook, Blames, Given, Unwritten, Reached, EndsBy, Ends}
use Rattle.ss_top.specs.declared.Status.{Status}
use Rattle.ss_top.specs.declared.Status.TheVariants as status
use Rattle.ss_top.proofs.Doings.{AreDone, IsCutShort, cuts_done, cuts_cut_short, ran_steps}
use Rattle.ss_top.proofs.Taking.{more-nothing, rose-first}

-- ---- entries that a shelf may hold

abbrev pub anything : Option Contents → Contents
anything None = empty
anything (Some m) = m

-- such that these bytes stand under the name
abbrev pub known : Option Contents → List ℕ → List ℕ → Contents
known None name bytes = insert empty name bytes
known (Some m) name bytes = m

pub stands-anything : (o : Option Contents) → Stands o (anything o)
stands-anything None = tt
stands-anything (Some m) = refl

pub stands-known : (o : Option Contents) (name bytes : List ℕ) → Stands o (known o name bytes)
stands-known None name bytes = tt
stands-known (Some m) name bytes = refl

itself : (name : List ℕ) → eq_by_cmp (slice_cmp nat_cmp) name name ≡ true
itself name = ap is_eq (tied_itself nat_list_cmp_total name)

pub get-known : (o : Option Contents) (name bytes : List ℕ) → Holds o name bytes → get (known o name bytes) name ≡ Some bytes
get-known None name bytes h = get-insert nat_list_cmp_total empty name bytes name ∙ ap (λ b. cond b (Some bytes) (get (empty {X = List ℕ} {R = slice_cmp nat_cmp}) name)) (itself name)
get-known (Some m) name bytes h = h

-- ---- steps

abbrev pub outside_of : Option Contents → Option (List ℕ) → Outside
outside_of held out = record { held = held; out = out }

-- ---- what a call comes to

never-misspelled : (f : CkptFault) → misspelled_by f ≡ Some accepted → ⊥
never-misspelled form.Magic e = cc
never-misspelled form.Form e = cc
never-misspelled (form.Short at) e = cc
never-misspelled (form.Value at) e = cc
never-misspelled (form.Order at) e = cc
never-misspelled (form.Trailing at) e = cc
never-misspelled form.NoMemory e = cc

never-unsound : (f : RestartFault) → unsound_by f ≡ Some accepted → ⊥
never-unsound (state.Element c) e = cc
never-unsound (state.Payload i) e = cc
never-unsound (state.Time i) e = cc
never-unsound (state.Tick n) e = cc
never-unsound (state.Unbalanced l ch) e = cc
never-unsound state.NoMemory e = cc

never : (r : Refusal) → judged_by r ≡ Some accepted → ⊥
never refusal.NotText e = cc
never (refusal.Graph f place) e = cc
never refusal.SharedParams e = cc
never (refusal.Limit k n) e = cc
never (refusal.Misspelled f) e = never-misspelled f e
never (refusal.Unsound f) e = never-unsound f e
never refusal.NoMemory e = cc

module _ (answers : Answer → Type 0) (leaves : Type 0) (old new : Seen) where
  -- it was refused
  refused : (s : Status) (text : List ℕ) → answers (answer.refusal s text) → new.outside ≡ old.outside → ErrTook (line text) old new → Given (λ held a. answers a) old new s
  refused s text a same t = record {
    held = anything old.outside.held;
    stands = stands-anything old.outside.held;
    answer = answer.refusal s text;
    answered = a;
    status = refl;
    done = same;
    err = t;
  }

  ended_by : (name : List ℕ) (o : Option Judged) → (o ≡ Some accepted → ⊥) → IsRefusal answers name o → new.outside ≡ old.outside → ErrTook (line_of name o) old new → EndsAs answers leaves old new (status_of o)
  ended_by name None n h same t = record { so_far = inl same; err = t }
  ended_by name (Some not_text) n h same t = refused status.Text (message_text message.NotText ++ name) h same t
  ended_by name (Some (at_fault f place)) n h same t = refused status.Graph (fault_line f place) h same t
  ended_by name (Some (past_limit k m)) n h same t = refused status.Limit (limit_line k m) h same t
  ended_by name (Some (misspelled f)) n h same t = refused status.Checkpoint (misspelled_line f) h same t
  ended_by name (Some (unsound f)) n h same t = refused status.Checkpoint (unsound_line f) h same t
  ended_by name (Some accepted) n h same t = absurd (n refl)

  pub refusal_ended : (name : List ℕ) (r : Refusal) (s : Status) → IsRefusal answers name (judged_by r) → new.outside ≡ old.outside → s ≡ status_of (judged_by r) → ErrTook (line_of name (judged_by r)) old new → EndsAs answers leaves old new s
  refusal_ended name r s h same e t = subst (λ (x : Status). EndsAs answers leaves old new x) (sym e) (ended_by name (judged_by r) (never r) h same t)

  -- all was done
  pub done_whole : (a : Answer) (d : Doing) → answers a → a.status ≡ status.Whole → a.err ≡ [] → d.steps ≡ a.steps → Done d old new → leaves → EndsAs answers leaves old new status.Whole
  done_whole a d h s e same k left = record {
    given = record {
      held = anything old.outside.held;
      stands = stands-anything old.outside.held;
      answer = a;
      answered = h;
      status = s;
      done = k.done ∙ ap (λ xs. after_steps xs old.outside) same;
      err = subst (λ (x : List ℕ). ErrTook x old new) (sym e) (inl (k.quiet ∙ more-nothing old.err));
    };
    left = left;
  }

  -- a limit ended it
  pub done_limited : (a : Answer) (d : Doing) (l : LimitKind × ℕ) → answers a → a.status ≡ status.Limit → a.err ≡ line (limit_line l.0 l.1) → d.steps ≡ a.steps → new.outside ≡ after_steps d.steps old.outside → ErrTook (line (limit_line l.0 l.1)) old new → EndsAs answers leaves old new status.Limit
  done_limited a d l h s e same k t = record {
    held = anything old.outside.held;
    stands = stands-anything old.outside.held;
    answer = a;
    answered = h;
    status = s;
    done = k ∙ ap (λ xs. after_steps xs old.outside) same;
    err = subst (λ (x : List ℕ). ErrTook x old new) (sym e) t;
  }

  -- a step failed, or memory was wanting between two
  pub done_in_part : (a : Answer) (steps : List Step) → answers a → (a.status ≡ status.Whole) ⊎ (a.status ≡ status.Limit) → steps ≡ a.steps → FailsIn steps old new → EndsAs answers leaves old new status.WriteFault
  done_in_part a steps h s same f = record {
    held = anything old.outside.held;
    stands = stands-anything old.outside.held;
    answer = a;
    answered = h;
    some = s;
    front = f.front;
    step = f.step;
    rest = f.rest;
    steps = sym same ∙ f.steps;
    part = f.part;
    blamed = f.blamed;
  }

  pub done_starved : (a : Answer) (steps : List Step) → answers a → steps ≡ a.steps → StarvesIn steps old new → EndsAs answers leaves old new status.NoMemory
  done_starved a steps h same f = record {
    so_far = inr (record {
      held = anything old.outside.held;
      stands = stands-anything old.outside.held;
      answer = a;
      answered = h;
      front = f.front;
      rest = f.rest;
      steps = sym same ∙ f.steps;
      done = f.done;
    });
    err = f.err;
  }

  -- what a call did that comes to an answer without a limit
  whole_ended : (a : Answer) (d : Doing) → answers a → a.status ≡ status.Whole → a.err ≡ [] → d.steps ≡ a.steps → d.stop ≡ None → (All IsBytes d.kept → leaves) → (s : Status) → EndsIn d old new s → EndsAs answers leaves old new s
  whole_ended a d h s e same n left status.Whole k = done_whole a d h s e same k.0 (left k.0.bytes)
  whole_ended a d h s e same n left status.Usage k = absurd k
  whole_ended a d h s e same n left status.Text k = absurd k
  whole_ended a d h s e same n left status.Graph k = absurd k
  whole_ended a d h s e same n left status.Limit k = absurd (none_some (sym n ∙ k.1))
  whole_ended a d h s e same n left status.Checkpoint k = absurd k
  whole_ended a d h s e same n left status.ReadFault k = absurd k
  whole_ended a d h s e same n left status.WriteFault k = done_in_part a d.steps h (inl s) same k
  whole_ended a d h s e same n left status.NoMemory k = done_starved a d.steps h same k

  -- and one that a limit ends
  limited_ended : (a : Answer) (d : Doing) (l : LimitKind × ℕ) → answers a → a.status ≡ status.Limit → a.err ≡ line (limit_line l.0 l.1) → d.steps ≡ a.steps → d.stop ≡ Some l → (s : Status) → EndsIn d old new s → EndsAs answers leaves old new s
  limited_ended a d l h s e same n status.Whole k = absurd (none_some (sym k.1 ∙ n))
  limited_ended a d l h s e same n status.Usage k = absurd k
  limited_ended a d l h s e same n status.Text k = absurd k
  limited_ended a d l h s e same n status.Graph k = absurd k
  limited_ended a d l h s e same n status.Limit k =
      let is : k.0 ≡ l = some_same (sym k.1 ∙ n) in
      done_limited a d l h s e same k.2 (subst (λ (x : LimitKind × ℕ). ErrTook (line (limit_line x.0 x.1)) old new) is k.3)
  limited_ended a d l h s e same n status.Checkpoint k = absurd k
  limited_ended a d l h s e same n status.ReadFault k = absurd k
  limited_ended a d l h s e same n status.WriteFault k = done_in_part a d.steps h (inr s) same k
  limited_ended a d l h s e same n status.NoMemory k = done_starved a d.steps h same k

  pub listed_ended : (texts : List (List ℕ)) (s : Status) → answers (whole texts) → leaves → EndsIn (listing texts) old new s → EndsAs answers leaves old new s
  listed_ended texts s h left k = whole_ended (whole texts) (listing texts) h refl refl refl refl (λ b. left) s k

  -- ---- runs

  module _ (g : Graph) (p : Printed) where
    abbrev cuts_doing : Doing
    cuts_doing = doing p.prefix g 0 (acts_in (cuts_by p))

    -- it came to its end
    closed : (e : End) → Closes answers leaves g p e → AreDone p.prefix (kept_by g p) (rest_in [] (cuts_by p)) cuts_doing → (s : Status) → EndsIn (next_to cuts_doing (closing_by e)) old new s → EndsAs answers leaves old new s
    closed end.Stopped h d s k = absurd h
    closed (end.Complete time sheets) h d s k =
        let a : Answer = ran p.prefix (kept_by g p) (rest_in [] (cuts_by p)) time (puts_by sheets.items) in
        let both : Doing = record { steps = cuts_doing.steps ++ (closing time (puts_by sheets.items)).steps; kept = cuts_doing.kept ++ []; stop = None } in
        let is : next_to cuts_doing (closing time (puts_by sheets.items)) ≡ both = ap (λ (o : Option (LimitKind × ℕ)). closed_by o cuts_doing (closing time (puts_by sheets.items))) d.stop in
        whole_ended a both h.0 refl refl
        (ran_steps p.prefix (kept_by g p) (rest_in [] (cuts_by p)) time (puts_by sheets.items) cuts_doing.steps d.steps) refl
        (λ b. h.1 (subst (λ (l : List (List ℕ)). All IsBytes l) (append-nil cuts_doing.kept ∙ d.kept) b)) s
        (subst (λ (x : Doing). EndsIn x old new s) is k)

    over : (next : Kept) (what : LimitKind) (n : ℕ) → answers (limited p.prefix (allowed 0 (kept_by g p)) next.lines what n) → IsCutShort p.prefix (allowed 0 (kept_by g p)) next.lines (what, n) cuts_doing → (e : End) (s : Status) → EndsIn (next_to cuts_doing (closing_by e)) old new s → EndsAs answers leaves old new s
    over next what n h d e s k =
        let is : next_to cuts_doing (closing_by e) ≡ cuts_doing = ap (λ (o : Option (LimitKind × ℕ)). closed_by o cuts_doing (closing_by e)) d.stop in
        limited_ended (limited p.prefix (allowed 0 (kept_by g p)) next.lines what n) cuts_doing (what, n) h refl refl d.steps d.stop s
        (subst (λ (x : Doing). EndsIn x old new s) is k)

    by_stop : (o : Option (Kept × (LimitKind × ℕ))) → stop_of g p ≡ o → (stop_of g p ≡ None → Closes answers leaves g p p.end) → ((next : Kept) (what : LimitKind) (n : ℕ) → stop_of g p ≡ Some (next, (what, n)) → answers (limited p.prefix (allowed 0 (kept_by g p)) next.lines what n))
        → (s : Status) → EndsIn (doing_by g p) old new s → EndsAs answers leaves old new s
    by_stop None e closes limits s k = closed p.end (closes e) (cuts_done p.prefix g (cuts_by p) e) s k
    by_stop (Some x) e closes limits s k = over x.0 x.1.0 x.1.1 (limits x.0 x.1.0 x.1.1 e) (cuts_cut_short p.prefix g (cuts_by p) x.0 x.1 e) p.end s k

  pub printed_ended : (p : Printed) (s : Status) → IsPrinted answers leaves p → EndsIn (doing_by p.run.value.graph p) old new s → EndsAs answers leaves old new s
  printed_ended p s h k =
      by_stop h.graph p (stop_of h.graph p) refl h.closes h.limits s (subst (λ (g : Graph). EndsIn (doing_by g p) old new s) h.is k)

-- ---- what comes before an end

module _ (answers answers' : Contents → Answer → Type 0) (asks asks' : List ℕ → Type 0) (leaves leaves' : Contents → Type 0) (old mid new : Seen) (held : Contents)
    (stands : Stands old.outside.held held) (answered : (h : Contents) (a : Answer) → answers h a → answers' held a) (left : (h : Contents) → leaves h → leaves' held) (nothing : (n : List ℕ) → asks n → ⊥)
    (same : mid.outside ≡ old.outside) (outs : mid.out_faults ≡ old.out_faults) (errs : mid.err_faults ≡ old.err_faults) (err : mid.err ≡ old.err)
    (kept : KeptCount old.put_faults mid.put_faults) (kept' : KeptCount mid.put_faults new.put_faults) where
  err_back : (text : List ℕ) → ErrTook text mid new → ErrTook text old new
  err_back text (inl e) = inl (e ∙ ap (more text) err)
  err_back text (inr (r, t)) = inr (subst (λ n. Rose n new.err_faults) errs r, subst (λ (x : Option (List ℕ)). TookSome text x new.err) err t)

  abbrev given_back : (s : Status) → Given answers mid new s → Given answers' old new s
  given_back s g = record { held = held; stands = stands; answer = g.answer; answered = answered g.held g.answer g.answered; status = g.status; done = g.done ∙ ap (after_steps g.answer.steps) same; err = err_back g.answer.err g.err }

  blames_back : (s : Step) → Blames s mid new → Blames s old new
  blames_back (write bytes) b = (subst (λ n. Rose n new.out_faults) outs b.0, err_back _ b.1)
  blames_back (put name bytes) b = (rose-first _ _ _ _ (kept name) (kept' name) (omega arith) b.0, err_back _ b.1)

  unwritten_back : Unwritten answers mid new → Unwritten answers' old new
  unwritten_back u = record {
    held = held;
    stands = stands;
    answer = u.answer;
    answered = answered u.held u.answer u.answered;
    some = u.some;
    front = u.front;
    step = u.step;
    rest = u.rest;
    steps = u.steps;
    part = subst (λ (x : Outside). InPart u.step (after_steps u.front x) new.outside) same u.part;
    blamed = blames_back u.step u.blamed;
  }

  so_far_back : (new.outside ≡ mid.outside) ⊎ Reached answers mid new → (new.outside ≡ old.outside) ⊎ Reached answers' old new
  so_far_back (inl e) = inl (e ∙ same)
  so_far_back (inr r) = inr (record { held = held; stands = stands; answer = r.answer; answered = answered r.held r.answer r.answered; front = r.front; rest = r.rest; steps = r.steps; done = r.done ∙ ap (after_steps r.front) same })

  pub ends_back : (s : Status) → EndsBy answers asks leaves mid new s → EndsBy answers' asks' leaves' old new s
  ends_back status.Whole g = record { given = given_back status.Whole g.given; left = left g.given.held g.left }
  ends_back status.Usage g = given_back status.Usage g
  ends_back status.Text g = given_back status.Text g
  ends_back status.Graph g = given_back status.Graph g
  ends_back status.Limit g = given_back status.Limit g
  ends_back status.Checkpoint g = given_back status.Checkpoint g
  ends_back status.ReadFault u = absurd (nothing u.name u.asked)
  ends_back status.WriteFault u = unwritten_back u
  ends_back status.NoMemory u = record { so_far = so_far_back u.so_far; err = err_back _ u.err }

-- ---- what an end means for another answer

module _ (answers answers' : Contents → Answer → Type 0) (asks asks' : List ℕ → Type 0) (leaves leaves' : Contents → Type 0) (old new : Seen)
    (answered : (held : Contents) (a : Answer) → answers held a → answers' held a) (left : (held : Contents) → leaves held → leaves' held) (asked : (n : List ℕ) → asks n → asks' n) where
  abbrev given_goes : (s : Status) → Given answers old new s → Given answers' old new s
  given_goes s g = record { held = g.held; stands = g.stands; answer = g.answer; answered = answered g.held g.answer g.answered; status = g.status; done = g.done; err = g.err }

  so_far_goes : (new.outside ≡ old.outside) ⊎ Reached answers old new → (new.outside ≡ old.outside) ⊎ Reached answers' old new
  so_far_goes (inl e) = inl e
  so_far_goes (inr r) = inr (record { held = r.held; stands = r.stands; answer = r.answer; answered = answered r.held r.answer r.answered; front = r.front; rest = r.rest; steps = r.steps; done = r.done })

  pub ends_goes : (s : Status) → EndsBy answers asks leaves old new s → EndsBy answers' asks' leaves' old new s
  ends_goes status.Whole g = record { given = given_goes status.Whole g.given; left = left g.given.held g.left }
  ends_goes status.Usage g = given_goes status.Usage g
  ends_goes status.Text g = given_goes status.Text g
  ends_goes status.Graph g = given_goes status.Graph g
  ends_goes status.Limit g = given_goes status.Limit g
  ends_goes status.Checkpoint g = given_goes status.Checkpoint g
  ends_goes status.ReadFault u = record { name = u.name; asked = asked u.name u.asked; rose = u.rose; untouched = u.untouched; err = u.err }
  ends_goes status.WriteFault u = record { held = u.held; stands = u.stands; answer = u.answer; answered = answered u.held u.answer u.answered; some = u.some; front = u.front; step = u.step; rest = u.rest; steps = u.steps; part = u.part; blamed = u.blamed }
  ends_goes status.NoMemory u = record { so_far = so_far_goes u.so_far; err = u.err }

-- ---- an entry

abbrev of_entry : Plan → Contents → Answer → Type 0
of_entry p held a = AnswersEntry p (get held (entry_name p)) a

abbrev is_named : List ℕ → List ℕ → Type 0
is_named name n = n ≡ name

abbrev leaves_of : Plan → List Working → Contents → Type 0
leaves_of p workers held = LeavesEntry p (get held (entry_name p)) workers

sized : (p : Plan) (bytes : List ℕ) (a : Answer) → length bytes ≤ most_of p → AnswersRead p bytes a → AnswersBytes p bytes a
sized p bytes a h k = let small : nat_lt (most_of p) (length bytes) ≡ false = grind (arith, nat_tests) in subst (λ (b : Bool). AnswersSized p bytes b a) (sym small) k

entered : (p : Plan) (bytes : List ℕ) (held : Contents) (a : Answer) → get held (entry_name p) ≡ Some bytes → AnswersBytes p bytes a → of_entry p held a
entered p bytes held a g k = subst (λ (o : Option (List ℕ)). AnswersEntry p o a) (sym g) k

left_of : (p : Plan) (bytes : List ℕ) (workers : List Working) (held : Contents) → get held (entry_name p) ≡ Some bytes → LeavesRead p bytes workers → leaves_of p workers held
left_of p bytes workers held g k = subst (λ (o : Option (List ℕ)). LeavesEntry p o workers) (sym g) k

module _ (p : Plan) (workers : List Working) (held held' held'' : Option Contents) (reads reads' reads'' puts puts' puts'' : List ℕ → ℕ) (out out' : Option (List ℕ)) (outs outs' : ℕ) (err err' : Option (List ℕ)) (errs errs' : ℕ) where
  -- the answer to an entry that was read
  pub read_answered : (bytes : List ℕ) (s : Status) → Holds held (entry_name p) bytes → length bytes ≤ most_of p → held' ≡ held → KeptCount puts puts' → KeptCount puts' puts'' → EndsAs (AnswersRead p bytes) (LeavesRead p bytes workers) (seen held' reads' puts' out outs err errs) (seen held'' reads'' puts'' out' outs' err' errs') s
      → EndsBy (of_entry p) (is_named (entry_name p)) (leaves_of p workers) (seen held reads puts out outs err errs) (seen held'' reads'' puts'' out' outs' err' errs') s
  read_answered bytes s holds small same kept kept' ends =
      let name = entry_name p in
      let h = known held name bytes in
      ends_back (λ k a. AnswersRead p bytes a) (of_entry p) (λ n. ⊥) (is_named name) (λ k. LeavesRead p bytes workers) (leaves_of p workers)
      (seen held reads puts out outs err errs) (seen held' reads' puts' out outs err errs) (seen held'' reads'' puts'' out' outs' err' errs')
      h (stands-known held name bytes) (λ k a t. entered p bytes h a (get-known held name bytes holds) (sized p bytes a small t)) (λ k l. left_of p bytes workers h (get-known held name bytes holds) l) (λ n f. f)
      (ap (λ x. outside_of x out) same) refl refl refl kept kept' s
      ends

module _ (p : Plan) (workers : List Working) (held held' : Option Contents) (reads reads' puts puts' : List ℕ → ℕ) (out out' : Option (List ℕ)) (outs outs' : ℕ) (err err' : Option (List ℕ)) (errs errs' : ℕ) where
  large : (bytes : List ℕ) → most_of p < length bytes → AnswersBytes p bytes (answer.refusal status.Limit (limit_line (size_limit p) (most_of p + 1)))
  large bytes h = let big : nat_lt (most_of p) (length bytes) ≡ true = grind (arith, nat_tests) in subst (λ (b : Bool). AnswersSized p bytes b (answer.refusal status.Limit (limit_line (size_limit p) (most_of p + 1)))) (sym big) refl

  pub read_large : (bytes : List ℕ) → most_of p < length bytes → Holds held (entry_name p) bytes → held' ≡ held → out' ≡ out → Told (line (limit_line (size_limit p) (most_of p + 1))) err err' errs errs'
      → EndsBy (of_entry p) (is_named (entry_name p)) (leaves_of p workers) (seen held reads puts out outs err errs) (seen held' reads' puts' out' outs' err' errs') status.Limit
  read_large bytes h holds same same' t = record {
    held = known held (entry_name p) bytes;
    stands = stands-known held (entry_name p) bytes;
    answer = answer.refusal status.Limit (limit_line (size_limit p) (most_of p + 1));
    answered = entered p bytes (known held (entry_name p) bytes) _ (get-known held (entry_name p) bytes holds) (large bytes h);
    status = refl;
    done = ap (λ x. outside_of x out') same ∙ ap (outside_of held) same';
    err = t;
  }

-- ---- threads

abbrev of_planned : Plan → Option ℕ → Contents → Answer → Type 0
of_planned p o held a = AnswersPlanned p held o a

module _ (p : Plan) (workers : List Working) (old new : Seen) where
  -- a plan with few enough threads answers as its entry does
  pub threads_answered : (o : Option ℕ) (s : Status) → o ≡ None → EndsBy (of_entry p) (is_named (entry_name p)) (leaves_of p workers) old new s → EndsBy (of_planned p o) (AsksPlanned p o) (leaves_of p workers) old new s
  threads_answered o s e ends = subst (λ (x : Option ℕ). EndsBy (of_planned p x) (AsksPlanned p x) (leaves_of p workers) old new s) (sym e) ends

  -- one with too many is refused
  pub threads_refused : (o : Option ℕ) (n : ℕ) → o ≡ Some n → new.outside ≡ old.outside → ErrTook (line (limit_line limit.Threads n)) old new → EndsBy (of_planned p o) (AsksPlanned p o) (leaves_of p workers) old new status.Limit
  threads_refused o n e same t = record {
    held = anything old.outside.held;
    stands = stands-anything old.outside.held;
    answer = answer.refusal status.Limit (limit_line limit.Threads n);
    answered = subst (λ (x : Option ℕ). AnswersPlanned p (anything old.outside.held) x (answer.refusal status.Limit (limit_line limit.Threads n))) (sym e) refl;
    status = refl;
    done = same;
    err = t;
  }

-- ---- words

planned : (words : List (List ℕ)) (p : Plan) (held : Contents) (a : Answer) → plan_by words ≡ Ok p → of_planned p (too_many_threads p) held a → Answers words held a
unfolding Answers
planned words p held a e k = subst (λ (r : Result Plan Usage). AnswersPlan r held a) (sym e) k

refused_words : (words : List (List ℕ)) (u : Usage) (held : Contents) → plan_by words ≡ Err u → Answers words held (answer.refusal status.Usage (message_text message.Usage ++ usage_text u))
unfolding Answers
refused_words words u held e = subst (λ (r : Result Plan Usage). AnswersPlan r held (answer.refusal status.Usage (message_text message.Usage ++ usage_text u))) (sym e) refl

asked_for : (words : List (List ℕ)) (p : Plan) (n : List ℕ) → plan_by words ≡ Ok p → AsksPlanned p (too_many_threads p) n → Asks words n
asked_for words p n e k = subst (λ (r : Result Plan Usage). AsksOf r n) (sym e) k

left_by : (words : List (List ℕ)) (p : Plan) (workers : List Working) (held : Contents) → plan_by words ≡ Ok p → leaves_of p workers held → Leaves words held workers
unfolding Leaves
left_by words p workers held e k = subst (λ (r : Result Plan Usage). LeavesPlan r held workers) (sym e) k

pub words_answered : (words : List (List ℕ)) (p : Plan) (workers : List Working) (old new : Seen) (s : Status) → plan_by words ≡ Ok p → EndsBy (of_planned p (too_many_threads p)) (AsksPlanned p (too_many_threads p)) (leaves_of p workers) old new s → Ends words workers old new s
words_answered words p workers old new s e ends =
    ends_goes (of_planned p (too_many_threads p)) (Answers words) (AsksPlanned p (too_many_threads p)) (Asks words) (leaves_of p workers) (λ held. Leaves words held workers) old new
    (λ held a k. planned words p held a e k) (λ held k. left_by words p workers held e k) (λ n k. asked_for words p n e k) s ends

words_stopped : (words : List (List ℕ)) (u : Usage) (workers : List Working) (old new : Seen) → plan_by words ≡ Err u → new.outside ≡ old.outside → ErrTook (line (message_text message.Usage ++ usage_text u)) old new → Ends words workers old new status.Usage
words_stopped words u workers old new e same t = record {
  held = anything old.outside.held;
  stands = stands-anything old.outside.held;
  answer = answer.refusal status.Usage (message_text message.Usage ++ usage_text u);
  answered = refused_words words u (anything old.outside.held) e;
  status = refl;
  done = same;
  err = t;
}

module _ (words : List (List ℕ)) (workers : List Working) (old new : Seen) (same : new.outside ≡ old.outside) where
  refused_by_words : (u : Usage) → (u ≡ usage.NoMemory → ⊥) → (u ≡ usage.NoMemory) ⊎ (plan_by words ≡ Err u) → ErrTook (line (message_text message.Usage ++ usage_text u)) old new → Ends words workers old new status.Usage
  refused_by_words u n (inl e) t = absurd (n e)
  refused_by_words u n (inr e) t = words_stopped words u workers old new e same t

  by_usage : (u : Usage) → (u ≡ usage.NoMemory) ⊎ (plan_by words ≡ Err u) → ErrTook (line (usage_line u)) old new → Ends words workers old new (usage_status u)
  by_usage usage.UnknownCommand h t = refused_by_words usage.UnknownCommand (λ e. cc) h t
  by_usage usage.Words h t = refused_by_words usage.Words (λ e. cc) h t
  by_usage (usage.Value whose) h t = refused_by_words (usage.Value whose) (λ e. cc) h t
  by_usage usage.NoMemory h t = record { so_far = inl same; err = t }

  pub words_refused : (u : Usage) (s : Status) → (u ≡ usage.NoMemory) ⊎ (plan_by words ≡ Err u) → s ≡ usage_status u → ErrTook (line (usage_line u)) old new → Ends words workers old new s
  words_refused u s h e t = subst (λ (x : Status). Ends words workers old new x) (sym e) (by_usage u h t)
