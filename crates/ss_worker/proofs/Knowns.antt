-- The bound as known, and the end of a window, by the least times that they are.
use Rattle.std.proofs.Common.{◌≡◌, ℕ, ◌<◌, ◌≤◌, Option, Some, None, Bool, sym, ap, ◌∙◌, arith, cond}
use Rattle.std.proofs.lemmas.Bool.{lt-ltb}
use Rattle.ss_worker.specs.Knowing.{window_at}
use Rattle.ss_window.specs.declared.Cuts.{Cuts}
use Rattle.ss_window.specs.Least.{IsLeast}
use Rattle.ss_window.specs.Cuts.{CutsFit, MayEnd, MayStop}
use Rattle.ss_parts.specs.Cutting.{known_of, cut_of, lesser_of, multiple_above}
use Rattle.ss_parts.proofs.Cuts.{one_least, cut_least, known_least}

pub known_is : (c : Cuts) → CutsFit c → (at n : ℕ) → IsLeast (MayStop at c) n → n ≡ known_of c (Some at)
known_is c fit at n h = one_least (MayStop at c) n (known_of c (Some at)) h (known_least c fit at)

pub cut_is : (c : Cuts) → CutsFit c → (look least bound n : ℕ) → IsLeast (MayEnd least look bound c) n → n ≡ cut_of look c least bound
cut_is c fit look least bound n h = one_least (MayEnd least look bound c) n (cut_of look c least bound) h (cut_least c fit look least bound)

lesser : (n : ℕ) (o : Option ℕ) → lesser_of n o ≤ n
lesser n None = omega arith
lesser n (Some t) = omega arith

-- no bound is above the stop time
pub known_most : (c : Cuts) (o : Option ℕ) → known_of c o ≤ c.stop
known_most c None = omega arith
known_most c (Some at) = lesser c.stop (multiple_above c.exit at)

pub window_some : (o : Option ℕ) (number least upto bound bound' look : ℕ) (c : Cuts) → o ≡ Some least → least < bound → bound ≡ bound' → upto ≡ cut_of look c least bound → Some (record { number = number; least = least; upto = upto }) ≡ window_at o number bound' look c
window_some o number least upto bound bound' look c e h b u =
    ap (λ t. Some (record { number = number; least = least; upto = t })) (u ∙ ap (cut_of look c least) b)
    ∙ ap (λ (x : Bool). cond x (Some (record { number = number; least = least; upto = cut_of look c least bound' })) None) (sym (lt-ltb least bound' (omega (arith, h, b))))
    ∙ ap (λ x. window_at x number bound' look c) (sym e)
