-- How a call may end: what the outside shows before it and after it, and the status.
use Rattle.std.specs.Prelude.{ℕ, ◌≡◌, ◌≤◌, ◌⊎◌, List, [], ◌∷◌, ◌++◌, Option, Some, None}
use Rattle.ss_top.specs.Message.{message_text}
use Rattle.ss_top.specs.declared.print.Message.TheVariants as message
use Rattle.ss_edge.specs.Edge.{Contents, Rose, Kept, PartlyPut, with_entry, more, TookSome}
use Rattle.ss_top.specs.Answer.{Step, write, put, Answer, Answers, Asks, line}
use Rattle.ss_top.specs.Left.{Working, Leaves}
use Rattle.ss_top.specs.declared.Status.{Status}
use Rattle.ss_top.specs.declared.Status.TheVariants as status

-- what the shelf holds and what `out` took, where they tell that
pub record Outside : Type 0 where
  pub held : Option Contents
  pub out : Option (List ℕ)

-- what the shelf, `out` and `err` show at a moment
pub record Seen : Type 0 where
  pub outside : Outside
  pub read_faults : List ℕ → ℕ
  pub put_faults : List ℕ → ℕ
  pub out_faults : ℕ
  pub err : Option (List ℕ)
  pub err_faults : ℕ

abbrev pub seen : Option Contents → (List ℕ → ℕ) → (List ℕ → ℕ) → Option (List ℕ) → ℕ → Option (List ℕ) → ℕ → Seen
seen held reads puts out out_faults err err_faults = record { outside = record { held = held; out = out }; read_faults = reads; put_faults = puts; out_faults = out_faults; err = err; err_faults = err_faults }

-- the entries are those that the shelf tells, if it tells any
abbrev pub Stands : Option Contents → Contents → Type 0
Stands None held = Unit {0}
Stands (Some told) held = held ≡ told

-- after one step, and after all of them
abbrev pub after_step : Step → Outside → Outside
after_step (write bytes) o = record { held = o.held; out = more bytes o.out }
after_step (put name bytes) o = record { held = with_entry name bytes o.held; out = o.out }

abbrev pub after_steps : List Step → Outside → Outside
after_steps [] o = o
after_steps (s ∷ ss) o = after_steps ss (after_step s o)

-- a step that failed was done in part: a beginning of the bytes was taken; or the entry holds a beginning, or is as before
abbrev pub InPart : Step → Outside → Outside → Type 0
InPart (write bytes) before after = TookSome bytes before.out after.out × (after.held ≡ before.held)
InPart (put name bytes) before after = PartlyPut name bytes before.held after.held × (after.out ≡ before.out)

-- `err` took a text, or a beginning of it where its count rose
abbrev pub ErrTook : List ℕ → Seen → Seen → Type 0
ErrTook text old new = (new.err ≡ more text old.err) ⊎ (Rose old.err_faults new.err_faults × TookSome text old.err new.err)

-- a step failed, and it is named
abbrev pub Blames : Step → Seen → Seen → Type 0
Blames (write bytes) old new = Rose old.out_faults new.out_faults × ErrTook (line (message_text message.OutputFault)) old new
Blames (put name bytes) old new = Rose (old.put_faults name) (new.put_faults name) × ErrTook (line (message_text message.WriteFault ++ name)) old new

-- no count has fallen
pub record Counted (old new : Seen) : Type 0 where
  pub reads : Kept old.read_faults new.read_faults
  pub puts : Kept old.put_faults new.put_faults
  pub out : old.out_faults ≤ new.out_faults
  pub err : old.err_faults ≤ new.err_faults

-- the answer was given whole
pub record Given (answers : Contents → Answer → Type 0) (old new : Seen) (s : Status) : Type 0 where
  pub held : Contents
  pub stands : Stands old.outside.held held
  pub answer : Answer
  pub answered : answers held answer
  pub status : answer.status ≡ s
  pub done : new.outside ≡ after_steps answer.steps old.outside
  pub err : ErrTook answer.err old new

-- and what else the call left is what it has to leave over the same entries
pub record GivenLeaving (answers : Contents → Answer → Type 0) (leaves : Contents → Type 0) (old new : Seen) (s : Status) : Type 0 where
  pub given : Given answers old new s
  pub left : leaves given.held

-- the entry that is asked for could not be read, and nothing was written
pub record Unread (asks : List ℕ → Type 0) (old new : Seen) : Type 0 where
  pub name : List ℕ
  pub asked : asks name
  pub rose : Rose (old.read_faults name) (new.read_faults name)
  pub untouched : new.outside ≡ old.outside
  pub err : ErrTook (line (message_text message.ReadFault ++ name)) old new

-- a step of an answer failed: those before it were done, and of it a part
pub record Unwritten (answers : Contents → Answer → Type 0) (old new : Seen) : Type 0 where
  pub held : Contents
  pub stands : Stands old.outside.held held
  pub answer : Answer
  pub answered : answers held answer
  pub some : (answer.status ≡ status.Whole) ⊎ (answer.status ≡ status.Limit)
  pub front : List Step
  pub step : Step
  pub rest : List Step
  pub steps : answer.steps ≡ front ++ step ∷ rest
  pub part : InPart step (after_steps front old.outside) new.outside
  pub blamed : Blames step old new

-- the first steps of an answer were done
pub record Reached (answers : Contents → Answer → Type 0) (old new : Seen) : Type 0 where
  pub held : Contents
  pub stands : Stands old.outside.held held
  pub answer : Answer
  pub answered : answers held answer
  pub front : List Step
  pub rest : List Step
  pub steps : answer.steps ≡ front ++ rest
  pub done : new.outside ≡ after_steps front old.outside

-- memory was wanting: before anything was written, or between two steps of the answer
pub record Starved (answers : Contents → Answer → Type 0) (old new : Seen) : Type 0 where
  pub so_far : (new.outside ≡ old.outside) ⊎ Reached answers old new
  pub err : ErrTook (line (message_text message.NoMemory)) old new

-- how a call may end, of which answers, asks and leaves tell the meaning
abbrev pub EndsBy : (Contents → Answer → Type 0) → (List ℕ → Type 0) → (Contents → Type 0) → Seen → Seen → Status → Type 0
EndsBy answers asks leaves old new status.Whole = GivenLeaving answers leaves old new status.Whole
EndsBy answers asks leaves old new status.Usage = Given answers old new status.Usage
EndsBy answers asks leaves old new status.Text = Given answers old new status.Text
EndsBy answers asks leaves old new status.Graph = Given answers old new status.Graph
EndsBy answers asks leaves old new status.Limit = Given answers old new status.Limit
EndsBy answers asks leaves old new status.Checkpoint = Given answers old new status.Checkpoint
EndsBy answers asks leaves old new status.ReadFault = Unread asks old new
EndsBy answers asks leaves old new status.WriteFault = Unwritten answers old new
EndsBy answers asks leaves old new status.NoMemory = Starved answers old new

-- how a call with these words may end that leaves these workers
abbrev pub Ends : List (List ℕ) → List Working → Seen → Seen → Status → Type 0
Ends words workers old new s = EndsBy (Answers words) (Asks words) (λ held. Leaves words held workers) old new s

-- the statuses that need something beside the words and the entries: a fault, or want of memory
abbrev pub Failing : Status → Type 0
Failing status.Whole = ⊥
Failing status.Usage = ⊥
Failing status.Text = ⊥
Failing status.Graph = ⊥
Failing status.Limit = ⊥
Failing status.Checkpoint = ⊥
Failing status.ReadFault = Unit {0}
Failing status.WriteFault = Unit {0}
Failing status.NoMemory = Unit {0}

-- this answer was given whole
pub record Gave (answer : Answer) (old new : Seen) (s : Status) : Type 0 where
  pub status : answer.status ≡ s
  pub done : new.outside ≡ after_steps answer.steps old.outside
  pub err : ErrTook answer.err old new

-- what the words answer over the entries that the shelf tells is given whole, unless the call failed
abbrev pub IsComplete : List (List ℕ) → Seen → Seen → Status → Type 0
IsComplete words old new s = (held : Contents) (answer : Answer) → old.outside.held ≡ Some held → Answers words held answer → Failing s ⊎ Gave answer old new s

-- words answer one thing
abbrev pub OneAnswer : Type 0
OneAnswer = (words : List (List ℕ)) (held : Contents) (a b : Answer) → Answers words held a → Answers words held b → a ≡ b

-- a call that ends as it may is complete
abbrev pub AllComplete : Type 0
AllComplete = (words : List (List ℕ)) (workers : List Working) (old new : Seen) (s : Status) → Ends words workers old new s → IsComplete words old new s
