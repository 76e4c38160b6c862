-- Reading a checkpoint's bytes step by step: the head, the text and what it makes, and what stands behind.
use Rattle.std.proofs.Common.{◌≡◌, ℕ, ◌+◌, List, length, drop, Option, Some, None, is_some, Ok, Err, sym, ap, ◌∙◌, subst, arith}
use Rattle.ss_wire.specs.Wire.{Cursor}
use Rattle.ss_wire.specs.Form.{◌>>=◌, whole}
use Rattle.ss_model.specs.Wiring.{Wiring}
use Rattle.ss_element.specs.Saving.{Saving}
use Rattle.ss_ckpt.specs.declared.fault.CkptFault.{CkptFault}
use Rattle.ss_ckpt.specs.declared.fault.CkptFault.TheVariants as form
use Rattle.ss_ckpt.specs.Faults.{Fails}
use Rattle.ss_ckpt.specs.Form.{Fields, head_form, body_form, judged_head, body_by, checkpoint_form}
use Rattle.ss_ckpt.specs.Spells.{IsHead, first_read, whole_read}
use Rattle.ss_ckpt.proofs.Laws.{head_is_form}
use Rattle.ss_ckpt.proofs.Through.{fails_on}
use Rattle.ss_recall.proofs.Forms.{only_keeps, only_fails, pair_fails, pair_whole, with_first, fails_back}

abbrev start : List ℕ → Cursor
start bytes = record { rest = bytes; at = 0 }

module _ {S L : Type 0} (saving : Saving S L) (makes : List ℕ → Option (List S × Wiring)) (bytes : List ℕ) where
  -- a fault of the head is one of the bytes
  pub head_fails : (e : CkptFault) → Fails e (first_read head_form bytes 0) → Fails e (whole_read (checkpoint_form saving makes) bytes 0)
  head_fails e h =
      let here : Fails e (head_form.read (start bytes)) = fails_back {A = Fields × Cursor} {B = Fields} (λ x. x.0) e (head_form.read (start bytes)) h in
      let judged : Fails e ((judged_head saving makes).read (start bytes)) = fails_on e (head_form.read (start bytes)) _ here in
      let both : Fails e ((checkpoint_form saving makes).read (start bytes)) = fails_on e ((judged_head saving makes).read (start bytes)) _ judged in
      fails_on e ((checkpoint_form saving makes).read (start bytes)) _ both

  module _ (h : Fields) (body : ℕ) (is : IsHead bytes h body) where
    abbrev behind : Cursor
    behind = record { rest = drop body bytes; at = body }

    head_read : head_form.read (start bytes) ≡ Ok (h, behind)
    head_read =
        let again = head_is_form.again h 0 (drop body bytes) is.fits in
        let there : 0 + length (head_form.spell h) ≡ body = let long = is.long in omega (arith, long) in
        ap (λ l. head_form.read (start l)) is.is ∙ again ∙ ap (λ n. Ok (h, record { rest = drop body bytes; at = n })) there

    -- a text that makes nothing is a bad value where it begins
    pub text_fails : makes h.graph ≡ None → whole_read (checkpoint_form saving makes) bytes 0 ≡ Err (form.Value 28)
    text_fails none =
        pair_fails (judged_head saving makes) (λ k. body_by saving (makes k.graph)) form.Trailing (start bytes) (form.Value 28)
        (only_fails head_form (λ k. is_some (makes k.graph)) (λ at. form.Value (at + 28)) (start bytes) behind h head_read (ap is_some none))

    -- behind the head the rest is read over what the text makes
    body_read : (firsts : List S) (w : Wiring) → makes h.graph ≡ Some (firsts, w) → whole_read (checkpoint_form saving makes) bytes 0 ≡ (whole_read (body_form saving w firsts) bytes body >>= with_first h)
    body_read firsts w some =
        pair_whole (judged_head saving makes) (λ k. body_by saving (makes k.graph)) form.Trailing (start bytes) behind h
        (only_keeps head_form (λ k. is_some (makes k.graph)) (λ at. form.Value (at + 28)) (start bytes) behind h head_read (ap is_some some))
        ∙ ap (λ o. whole (body_by saving o) form.Trailing behind >>= with_first h) some

    pub body_fails : (firsts : List S) (w : Wiring) (e : CkptFault) → makes h.graph ≡ Some (firsts, w) → Fails e (whole_read (body_form saving w firsts) bytes body) → Fails e (whole_read (checkpoint_form saving makes) bytes 0)
    body_fails firsts w e some f =
        subst (λ r. Fails e r) (sym (body_read firsts w some)) (fails_on e (whole_read (body_form saving w firsts) bytes body) (with_first h) f)
