-- A run has one report.
use Rattle.std.proofs.Common.{◌≡◌, ℕ, zero, suc, ◌+◌, ◌<◌, ◌==◌, Bool, true, false, cond, List, [], ◌∷◌, ◌++◌, length, Option, Some, None, refl, sym, ap, ◌∙◌, subst, arith, ◌⊎◌, inl, inr, append_assoc, append-nil}
use Rattle.std.specs.Prelude.{nat_lt}
use Rattle.std.specs.List.{filter}
use Rattle.std.proofs.lemmas.Bool.Decides.{nat_tests}
use Rattle.std.proofs.lemmas.Bool.{eqb-true}
use Rattle.ss_model.specs.declared.Event.{Event}
use Rattle.ss_theory.specs.Queue.{is_at}
use Rattle.ss_theory.specs.World.{World, IsUntil, across, src_of, dst_of}
use Rattle.ss_theory.specs.Rounds.{Cutting, Moment, window_end, moved, Leads, IsOpened, IsBatch, HasWindows}
use Rattle.ss_theory.proofs.Rounds.{not_both, one_until}
use Rattle.mr_flow.specs.declared.Load.{Load}
use Rattle.ss_library.specs.Kinds.{any_kind}
use Rattle.ss_library.specs.Meaning.{any_meaning}
use Rattle.ss_parts.specs.Division.{all_idle, cut, beginning, view}
use Rattle.ss_run.specs.declared.RunSpec.{RunSpec}
use Rattle.ss_run.specs.Run.{division, wires_of, start_of}
use Rattle.ss_worker.specs.Told.{total}
use Rattle.ss_top.specs.Report.{Has, Goes, Sent, pair_line, giver_lines, givers_lines, windows_line, report_text, Lists, ListsAll, IsReport, Reports}

-- ---- windows and what is sent in them are determined

module _ {W X K E T : Type 0} (v : World W X K E T) (done : W → Bool) (c : Cutting) (start : Moment W E) where
  one_led : (h m n : Moment W E) → Leads v done c h m → Leads v done c h n → m ≡ n
  one_led h m n a b = a.is ∙ ap (λ k. moved v done c k h) (one_until v (window_end v done c h) a.steps b.steps h.whole a.until b.until) ∙ sym b.is

  one_opened : (k : ℕ) (g h : Moment W E) → IsOpened v done c start k g → IsOpened v done c start k h → g ≡ h
  one_opened zero g h a b = a ∙ sym b
  one_opened (suc k) g h a b =
      let e : a.0 ≡ b.0 = one_opened k a.0 b.0 a.1 b.1 in
      one_led b.0 g h (subst (λ (x : Moment W E). Leads v done c x g) e a.2) b.2

  not_more : (k j : ℕ) → HasWindows v done c start k → HasWindows v done c start j → k < j → ⊥
  not_more k j a b h = not_both v (c.known a.last.since) a.last.whole.pending a.over (b.first k a.last h a.opened)

  trichotomy : (k j : ℕ) → (k < j) ⊎ ((j < k) ⊎ (k ≡ j))
  trichotomy k j = go (nat_lt k j) refl (nat_lt j k) refl
    where
      go : (b : Bool) → nat_lt k j ≡ b → (d : Bool) → nat_lt j k ≡ d → (k < j) ⊎ ((j < k) ⊎ (k ≡ j))
      go true e d f = inl (grind (arith, nat_tests))
      go false e true f = inr (inl (grind (arith, nat_tests)))
      go false e false f = inr (inr (grind (arith, nat_tests)))

  one_count : (k j : ℕ) → HasWindows v done c start k → HasWindows v done c start j → k ≡ j
  one_count k j a b = go (trichotomy k j)
    where
      go : (k < j) ⊎ ((j < k) ⊎ (k ≡ j)) → k ≡ j
      go (inl h) = absurd (not_more k j a b h)
      go (inr (inl h)) = absurd (not_more j k b a h)
      go (inr (inr e)) = e

  one_batch : (giver taker k : ℕ) (a b : List E) → IsBatch v done c start giver taker k a → IsBatch v done c start giver taker k b → a ≡ b
  one_batch giver taker k a b x y =
      let same : x.moment ≡ y.moment = one_opened k x.moment y.moment x.opened y.opened in
      let until : IsUntil v (window_end v done c y.moment) x.steps y.moment.whole = subst (λ (m : Moment W E). IsUntil v (window_end v done c m) x.steps m.whole) same x.until in
      let steps : x.steps ≡ y.steps = one_until v (window_end v done c y.moment) x.steps y.steps y.moment.whole until y.until in
      x.are
      ∙ ap (λ (m : Moment W E). filter (is_at (src_of v) giver) (filter (is_at (dst_of v) taker) (across v x.steps m.whole))) same
      ∙ ap (λ n. filter (is_at (src_of v) giver) (filter (is_at (dst_of v) taker) (across v n y.moment.whole))) steps
      ∙ sym y.are

pub total-agree : (n : ℕ) (f g : ℕ → ℕ) → ((k : ℕ) → k < n → f k ≡ g k) → total n f ≡ total n g
total-agree zero f g h = refl
total-agree (suc n) f g h = ap (λ x. x + f n) (total-agree n f g (λ k l. h k (omega arith))) ∙ ap (λ x. total n g + x) (h n (omega arith))

module _ (r : RunSpec) where
  pub windows-one : (k j : ℕ) → Has r k → Has r j → k ≡ j
  windows-one k j a b = one_count (view any_kind (wires_of any_meaning r) (division r) (start_of any_meaning r)) (all_idle any_kind) (cut any_kind (wires_of any_meaning r) (division r) (start_of any_meaning r)) (beginning any_kind (wires_of any_meaning r) (division r) (start_of any_meaning r)) k j a b

  pub goes-one : (giver taker k : ℕ) (a b : List (Event Load)) → Goes r giver taker k a → Goes r giver taker k b → a ≡ b
  goes-one giver taker k a b x y = one_batch (view any_kind (wires_of any_meaning r) (division r) (start_of any_meaning r)) (all_idle any_kind) (cut any_kind (wires_of any_meaning r) (division r) (start_of any_meaning r)) (beginning any_kind (wires_of any_meaning r) (division r) (start_of any_meaning r)) giver taker k a b x y

  sent-one : (giver taker windows n m : ℕ) → Sent r giver taker windows n → Sent r giver taker windows m → n ≡ m
  sent-one giver taker windows n m a b =
      a.count ∙ total-agree windows (λ k. length (a.batch k)) (λ k. length (b.batch k)) (λ k h. ap length (goes-one giver taker k (a.batch k) (b.batch k) (a.goes k h) (b.goes k h))) ∙ sym b.count

-- ---- the text

pair-agree : (giver n windows : ℕ) (f g : ℕ → ℕ) (b : Bool) → giver == n ≡ b → ((giver ≡ n → ⊥) → f n ≡ g n)
    → cond b [] (pair_line giver n windows (f n)) ≡ cond b [] (pair_line giver n windows (g n))
pair-agree giver n windows f g true e h = refl
pair-agree giver n windows f g false e h = ap (pair_line giver n windows) (h (λ same. grind (arith, nat_tests)))

pub giver_lines-agree : (windows giver n : ℕ) (f g : ℕ → ℕ) → ((j : ℕ) → j < n → (giver ≡ j → ⊥) → f j ≡ g j) → giver_lines f windows giver n ≡ giver_lines g windows giver n
giver_lines-agree windows giver zero f g h = refl
giver_lines-agree windows giver (suc n) f g h =
    ap (λ t. t ++ cond (giver == n) [] (pair_line giver n windows (f n))) (giver_lines-agree windows giver n f g (λ j l. h j (omega arith)))
    ∙ ap (λ t. giver_lines g windows giver n ++ t) (pair-agree giver n windows f g (giver == n) refl (h n (omega arith)))

pub givers_lines-agree : (windows parts n : ℕ) (f g : ℕ → ℕ → ℕ) → ((i j : ℕ) → i < n → j < parts → (i ≡ j → ⊥) → f i j ≡ g i j) → givers_lines f windows parts n ≡ givers_lines g windows parts n
givers_lines-agree windows parts zero f g h = refl
givers_lines-agree windows parts (suc n) f g h =
    ap (λ t. t ++ giver_lines (f n) windows n parts) (givers_lines-agree windows parts n f g (λ i j l. h i j (omega arith)))
    ∙ ap (λ t. givers_lines g windows parts n ++ t) (giver_lines-agree windows n parts (f n) (g n) (λ j l. h n j (omega arith) l))

-- ---- a text that grows

module _ (r : RunSpec) (windows : ℕ) where
  abbrev with_sent : (ℕ → ℕ) → ℕ → ℕ → ℕ → ℕ
  with_sent sent n events j = cond (j == n) events (sent j)

  with_sent-same : (sent : ℕ → ℕ) (n events : ℕ) → with_sent sent n events n ≡ events
  with_sent-same sent n events = let e : (n == n) ≡ true = grind (arith, nat_tests) in ap (λ b. cond b events (sent n)) e

  with_sent-other : (sent : ℕ → ℕ) (n events j : ℕ) → j < n → with_sent sent n events j ≡ sent j
  with_sent-other sent n events j h = let e : (j == n) ≡ false = grind (arith, nat_tests) in ap (λ b. cond b events (sent j)) e

  pub lists-none : (giver : ℕ) (old : List ℕ) → Lists r windows giver 0 old old
  lists-none giver old = record { sent = λ j. 0; each = λ j h n. absurd (omega (arith, h)); is = sym (append-nil old) }

  lists-add : (giver n events : ℕ) (old mid new : List ℕ) → ((giver ≡ n → ⊥) → Sent r giver n windows events) → new ≡ mid ++ cond (giver == n) [] (pair_line giver n windows events)
      → Lists r windows giver n old mid → Lists r windows giver (suc n) old new
  lists-add giver n events old mid new s e h = record {
    sent = with_sent h.sent n events;
    each = λ j l d. go j l d (j == n) refl;
    is = e ∙ ap (λ t. t ++ cond (giver == n) [] (pair_line giver n windows events)) h.is
        ∙ append_assoc old (giver_lines h.sent windows giver n) (cond (giver == n) [] (pair_line giver n windows events))
        ∙ ap (λ t. old ++ (t ++ cond (giver == n) [] (pair_line giver n windows events))) (giver_lines-agree windows giver n h.sent (with_sent h.sent n events) (λ j l d. sym (with_sent-other h.sent n events j l)))
        ∙ ap (λ m. old ++ (giver_lines (with_sent h.sent n events) windows giver n ++ cond (giver == n) [] (pair_line giver n windows m))) (sym (with_sent-same h.sent n events));
  }
    where
      go : (j : ℕ) → j < suc n → (giver ≡ j → ⊥) → (b : Bool) → (j == n) ≡ b → Sent r giver j windows (cond b events (h.sent j))
      go j l d true e = let same : j ≡ n = eqb-true j n e in subst (λ m. Sent r giver m windows events) (sym same) (s (λ f. d (f ∙ sym same)))
      go j l d false e = h.each j (grind (arith, nat_tests)) d

  pub lists-pair : (giver n events : ℕ) (old mid new : List ℕ) → (giver ≡ n → ⊥) → Sent r giver n windows events → new ≡ mid ++ pair_line giver n windows events → Lists r windows giver n old mid → Lists r windows giver (n + 1) old new
  lists-pair giver n events old mid new d s e h =
      let other : (giver == n) ≡ false = grind (arith, nat_tests) in
      let one : suc n ≡ n + 1 = omega arith in
      subst (λ m. Lists r windows giver m old new) one
      (lists-add giver n events old mid new (λ x. s) (e ∙ sym (ap (λ b. mid ++ cond b [] (pair_line giver n windows events)) other)) h)

  pub lists-own : (giver n : ℕ) (old mid : List ℕ) → giver ≡ n → Lists r windows giver n old mid → Lists r windows giver (n + 1) old mid
  lists-own giver n old mid same h =
      let own : (giver == n) ≡ true = grind (arith, nat_tests) in
      let one : suc n ≡ n + 1 = omega arith in
      subst (λ m. Lists r windows giver m old mid) one
      (lists-add giver n 0 old mid mid (λ d. absurd (d same)) (sym (ap (λ b. mid ++ cond b [] (pair_line giver n windows 0)) own ∙ append-nil mid)) h)

  pub lists_all-none : (old : List ℕ) → ListsAll r windows 0 old old
  lists_all-none old = record { sent = λ i j. 0; each = λ i j h l n. absurd (omega (arith, h)); is = sym (append-nil old) }

  abbrev with_row : (ℕ → ℕ → ℕ) → ℕ → (ℕ → ℕ) → ℕ → ℕ → ℕ
  with_row sent n row i j = cond (i == n) (row j) (sent i j)

  with_row-same : (sent : ℕ → ℕ → ℕ) (n : ℕ) (row : ℕ → ℕ) (j : ℕ) → with_row sent n row n j ≡ row j
  with_row-same sent n row j = let e : (n == n) ≡ true = grind (arith, nat_tests) in ap (λ b. cond b (row j) (sent n j)) e

  with_row-other : (sent : ℕ → ℕ → ℕ) (n : ℕ) (row : ℕ → ℕ) (i j : ℕ) → i < n → with_row sent n row i j ≡ sent i j
  with_row-other sent n row i j h = let e : (i == n) ≡ false = grind (arith, nat_tests) in ap (λ b. cond b (row j) (sent i j)) e

  pub lists_all-more : (n : ℕ) (old mid new : List ℕ) → Lists r windows n r.partition.parts mid new → ListsAll r windows n old mid → ListsAll r windows (n + 1) old new
  lists_all-more n old mid new g h =
      let parts = r.partition.parts in
      let one : suc n ≡ n + 1 = omega arith in
      let more : ListsAll r windows (suc n) old new = record {
        sent = with_row h.sent n g.sent;
        each = λ i j l k d. go i j l k d (i == n) refl;
        is = g.is ∙ ap (λ t. t ++ giver_lines g.sent windows n parts) h.is
            ∙ append_assoc old (givers_lines h.sent windows parts n) (giver_lines g.sent windows n parts)
            ∙ ap (λ t. old ++ (t ++ giver_lines g.sent windows n parts)) (givers_lines-agree windows parts n h.sent (with_row h.sent n g.sent) (λ i j l k d. sym (with_row-other h.sent n g.sent i j l)))
            ∙ ap (λ t. old ++ (givers_lines (with_row h.sent n g.sent) windows parts n ++ t)) (giver_lines-agree windows n parts g.sent (with_row h.sent n g.sent n) (λ j l d. sym (with_row-same h.sent n g.sent j)));
      } in
      subst (λ m. ListsAll r windows m old new) one more
    where
      go : (i j : ℕ) → i < suc n → j < r.partition.parts → (i ≡ j → ⊥) → (b : Bool) → (i == n) ≡ b → Sent r i j windows (cond b (g.sent j) (h.sent i j))
      go i j l k d true e = let same : i ≡ n = eqb-true i n e in subst (λ m. Sent r m j windows (g.sent j)) (sym same) (g.each j k (λ f. d (same ∙ f)))
      go i j l k d false e = h.each i j (grind (arith, nat_tests)) k d

report-one : (r : RunSpec) (s t : List ℕ) → IsReport r s → IsReport r t → s ≡ t
report-one r s t a b =
    let same : a.windows ≡ b.windows = windows-one r a.windows b.windows a.has b.has in
    a.is
    ∙ ap (λ n. report_text r.partition.parts n a.sent) same
    ∙ ap (λ l. windows_line b.windows ++ l)
    (givers_lines-agree b.windows r.partition.parts r.partition.parts a.sent b.sent
    (λ i j k l n. sent-one r i j b.windows (a.sent i j) (b.sent i j) (subst (λ w. Sent r i j w (a.sent i j)) same (a.each i j k l n)) (b.each i j k l n)))
    ∙ sym b.is

pub reports-one : (r : RunSpec) (name : Option (List ℕ)) (p q : List (List ℕ × List ℕ)) → Reports r name p → Reports r name q → p ≡ q
reports-one r None p q a b = a ∙ sym b
reports-one r (Some name) p q a b = a.2 ∙ ap (λ (t : List ℕ). (name, t) ∷ []) (report-one r a.0 b.0 a.1 b.1) ∙ sym b.2
