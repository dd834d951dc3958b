-- Things that are changed by plans, one after another.
use Rattle.std.proofs.Common.{◌≡◌, ℕ, zero, suc, ◌+◌, ◌<◌, ◌≤◌, List, [], ◌∷◌, ◌++◌, length, take, get_or, slice_set, refl, sym, ap, subst, ◌∙◌, arith, length-append, length-take}
use Rattle.std.proofs.lemmas.List.{take_more}
use Rattle.qe_mem.specs.Each.{each, AllOfBoth}

module _ {P T : Type 0} (f : P → T → T) where
  pub each_length : (plans : List P) (things : List T) → length (each f plans things) ≡ length things
  each_length [] things = refl
  each_length (plan ∷ plans) [] = refl
  each_length (plan ∷ plans) (thing ∷ things) = ap suc (each_length plans things)

  -- those behind the plans stay
  untouched : (plans : List P) (things : List T) (d : T) → get_or (each f plans things) (length plans) d ≡ get_or things (length plans) d
  untouched [] things d = refl
  untouched (plan ∷ plans) [] d = refl
  untouched (plan ∷ plans) (thing ∷ things) d = untouched plans things d

  set_behind : (plans : List P) (things : List T) (now : T) → each f plans (slice_set things (length plans) now) ≡ slice_set (each f plans things) (length plans) now
  set_behind [] things now = refl
  set_behind (plan ∷ plans) [] now = refl
  set_behind (plan ∷ plans) (thing ∷ things) now = ap (λ l. f plan thing ∷ l) (set_behind plans things now)

  last_first : (plans : List P) (plan : P) (things : List T) (thing : T) → length plans < length things → thing ≡ get_or things (length plans) thing → each f (plans ++ plan ∷ []) things ≡ each f plans (slice_set things (length plans) (f plan thing))
  last_first [] plan [] thing within is = absurd (omega arith)
  last_first [] plan (first ∷ things) thing within is = λ i. f plan (sym is i) ∷ things
  last_first (one ∷ plans) plan [] thing within is = absurd (omega arith)
  last_first (one ∷ plans) plan (first ∷ things) thing within is = ap (λ l. f one first ∷ l) (last_first plans plan things thing (omega arith) is)

  none_last : (plans : List P) (plan : P) (things : List T) → length things ≤ length plans → each f (plans ++ plan ∷ []) things ≡ each f plans things
  none_last [] plan [] past = refl
  none_last [] plan (first ∷ things) past = absurd (omega arith)
  none_last (one ∷ plans) plan [] past = refl
  none_last (one ∷ plans) plan (first ∷ things) past = ap (λ l. f one first ∷ l) (none_last plans plan things (omega arith))

  one_more : (plans : List P) (at : ℕ) (plan : P) → at < length plans → plan ≡ get_or plans at plan → take (at + 1) plans ≡ take at plans ++ plan ∷ []
  one_more plans at plan within is = take_more plans at plan within ∙ ap (λ p. take at plans ++ p ∷ []) (sym is)

  taken : (plans : List P) (at : ℕ) → at < length plans → length (take at plans) ≡ at
  taken plans at within = omega (arith, length-take at plans)

  -- one plan more from the first on
  pub each_more : (plans : List P) (at : ℕ) (plan : P) (first before : List T) (thing : T) → at < length plans → plan ≡ get_or plans at plan → before ≡ each f (take at plans) first → at < length first → thing ≡ get_or before at thing
      → slice_set before at (f plan thing) ≡ each f (take (at + 1) plans) first
  each_more plans at plan first before thing within is so_far inside found =
      let count = taken plans at within in
      ap (λ l. slice_set l at (f plan thing)) so_far
      ∙ ap (λ n. slice_set (each f (take at plans) first) n (f plan thing)) (sym count)
      ∙ sym (set_behind (take at plans) first (f plan thing))
      ∙ sym (last_first (take at plans) plan first thing (subst (λ n. n < length first) (sym count) inside)
      (found ∙ ap (λ l. get_or l at thing) so_far ∙ ap (λ n. get_or (each f (take at plans) first) n thing) (sym count) ∙ untouched (take at plans) first thing))
      ∙ ap (λ l. each f l first) (sym (one_more plans at plan within is))

  -- one plan less from the last on
  pub each_less : (plans : List P) (at : ℕ) (plan : P) (before all : List T) (thing : T) → at < length plans → plan ≡ get_or plans at plan → at < length before → thing ≡ get_or before at thing → each f (take (at + 1) plans) before ≡ all
      → each f (take at plans) (slice_set before at (f plan thing)) ≡ all
  each_less plans at plan before all thing within is inside found so_far =
      let count = taken plans at within in
      ap (λ n. each f (take at plans) (slice_set before n (f plan thing))) (sym count)
      ∙ sym (last_first (take at plans) plan before thing (subst (λ n. n < length before) (sym count) inside) (subst (λ n. thing ≡ get_or before n thing) (sym count) found))
      ∙ ap (λ l. each f l before) (sym (one_more plans at plan within is)) ∙ so_far

  pub none_less : (plans : List P) (at : ℕ) (d : P) (before all : List T) → at < length plans → length before ≤ at → each f (take (at + 1) plans) before ≡ all → each f (take at plans) before ≡ all
  none_less plans at d before all within past so_far =
      sym (none_last (take at plans) (get_or plans at d) before (subst (λ n. length before ≤ n) (sym (taken plans at within)) past)) ∙ ap (λ l. each f l before) (sym (take_more plans at d within)) ∙ so_far

  -- the last plan taken off
  pub each_popped : (all plans : List P) (plan : P) (before end : List T) (thing : T) → all ≡ plans ++ plan ∷ [] → length plans < length before → thing ≡ get_or before (length plans) thing → each f all before ≡ end
      → each f plans (slice_set before (length plans) (f plan thing)) ≡ end
  each_popped all plans plan before end thing split inside found so_far = sym (last_first plans plan before thing inside found) ∙ ap (λ l. each f l before) (sym split) ∙ so_far

module _ {P T : Type 0} (Q : P → T → Type 0) where
  pub both_within : (plans : List P) (things : List T) (at : ℕ) → AllOfBoth Q plans things → at < length plans → at < length things
  both_within [] things at all within = absurd (omega arith)
  both_within (plan ∷ plans) [] at all within = absurd all
  both_within (plan ∷ plans) (thing ∷ things) zero all within = omega arith
  both_within (plan ∷ plans) (thing ∷ things) (suc at) all within = let later = both_within plans things at all.1 (omega arith) in omega arith

  pub both_at : (plans : List P) (things : List T) (at : ℕ) (p : P) (t : T) → AllOfBoth Q plans things → at < length plans → Q (get_or plans at p) (get_or things at t)
  both_at [] things at p t all within = absurd (omega arith)
  both_at (plan ∷ plans) [] at p t all within = absurd all
  both_at (plan ∷ plans) (thing ∷ things) zero p t all within = all.0
  both_at (plan ∷ plans) (thing ∷ things) (suc at) p t all within = both_at plans things at p t all.1 (omega arith)

  -- what holds of the next one
  pub next_holds : (f : P → T → T) (plans : List P) (at : ℕ) (plan : P) (first before : List T) (thing : T) → AllOfBoth Q plans first → at < length plans → plan ≡ get_or plans at plan → before ≡ each f (take at plans) first → thing ≡ get_or before at thing
      → Q plan thing
  next_holds f plans at plan first before thing all within is so_far found =
      let count : length (take at plans) ≡ at = omega (arith, length-take at plans) in
      subst (λ p. Q p thing) (sym is)
      (subst (Q (get_or plans at plan)) (sym (found ∙ ap (λ l. get_or l at thing) so_far ∙ ap (λ n. get_or (each f (take at plans) first) n thing) (sym count) ∙ untouched f (take at plans) first thing ∙ ap (λ n. get_or first n thing) count))
      (both_at plans first at plan thing all within))

  pub next_within : (f : P → T → T) (plans : List P) (at : ℕ) (first before : List T) → AllOfBoth Q plans first → at < length plans → before ≡ each f (take at plans) first → at < length before
  next_within f plans at first before all within so_far = subst (λ n. at < n) (sym (ap length so_far ∙ each_length f (take at plans) first)) (both_within plans first at all within)

  -- what holds of the last one
  pub last_within : (all plans : List P) (plan : P) (things : List T) → all ≡ plans ++ plan ∷ [] → AllOfBoth Q all things → length plans < length things
  last_within all plans plan things split holds = both_within all things (length plans) holds (omega (arith, ap length split, length-append plans (plan ∷ [])))

  behind : (plans : List P) (plan : P) (things : List T) (thing : T) → AllOfBoth Q (plans ++ plan ∷ []) things → thing ≡ get_or things (length plans) thing → Q plan thing
  behind [] plan [] thing holds found = absurd holds
  behind [] plan (first ∷ things) thing holds found = subst (Q plan) (sym found) holds.0
  behind (one ∷ plans) plan [] thing holds found = absurd holds
  behind (one ∷ plans) plan (first ∷ things) thing holds found = behind plans plan things thing holds.1 found

  pub last_holds : (all plans : List P) (plan : P) (things : List T) (thing : T) → all ≡ plans ++ plan ∷ [] → AllOfBoth Q all things → thing ≡ get_or things (length plans) thing → Q plan thing
  last_holds all plans plan things thing split holds found = behind plans plan things thing (subst (λ l. AllOfBoth Q l things) split holds) found

  before_set : (plans : List P) (plan : P) (things : List T) (now : T) → AllOfBoth Q (plans ++ plan ∷ []) things → AllOfBoth Q plans (slice_set things (length plans) now)
  before_set [] plan things now holds = tt
  before_set (one ∷ plans) plan [] now holds = absurd holds
  before_set (one ∷ plans) plan (first ∷ things) now holds = (holds.0, before_set plans plan things now holds.1)

  pub others_hold : (all plans : List P) (plan : P) (things : List T) (now : T) → all ≡ plans ++ plan ∷ [] → AllOfBoth Q all things → AllOfBoth Q plans (slice_set things (length plans) now)
  others_hold all plans plan things now split holds = before_set plans plan things now (subst (λ l. AllOfBoth Q l things) split holds)

  -- what is undone in each is undone in all
  pub each_undone : (f g : P → T → T) → ((plan : P) (thing : T) → Q plan thing → g plan (f plan thing) ≡ thing) → (plans : List P) (count : ℕ) (things : List T) → AllOfBoth Q plans things → each g (take count plans) (each f (take count plans) things) ≡ things
  each_undone f g undone [] zero things all = refl
  each_undone f g undone [] (suc count) things all = refl
  each_undone f g undone (plan ∷ plans) zero things all = refl
  each_undone f g undone (plan ∷ plans) (suc count) [] all = absurd all
  each_undone f g undone (plan ∷ plans) (suc count) (thing ∷ things) all = λ i. undone plan thing all.0 i ∷ each_undone f g undone plans count things all.1 i

  pub all_back : (f g : P → T → T) → ((plan : P) (thing : T) → Q plan thing → g plan (f plan thing) ≡ thing) → (plans : List P) (count : ℕ) (first before after : List T) → AllOfBoth Q plans first → before ≡ each f (take count plans) first → after ≡ each g (take count plans) before
      → after ≡ first
  all_back f g undone plans count first before after all so_far is = is ∙ ap (each g (take count plans)) so_far ∙ each_undone f g undone plans count first all

  pub each_all_undone : (f g : P → T → T) → ((plan : P) (thing : T) → Q plan thing → g plan (f plan thing) ≡ thing) → (plans : List P) (things : List T) → AllOfBoth Q plans things → each g plans (each f plans things) ≡ things
  each_all_undone f g undone [] things all = refl
  each_all_undone f g undone (plan ∷ plans) [] all = absurd all
  each_all_undone f g undone (plan ∷ plans) (thing ∷ things) all = λ i. undone plan thing all.0 i ∷ each_all_undone f g undone plans things all.1 i
