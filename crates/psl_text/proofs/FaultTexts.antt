-- The fault of a text: what is refused has that fault, and what has a fault is refused with it.
use Rattle.std.proofs.Common.{◌≡◌, ◌≢◌, ◌<◌, ◌≤◌, ℕ, zero, suc, Bool, true, false, cond, List, [], length, take, Result, Ok, Err, ◌⊎◌, inl, inr, refl, sym, ap, subst, ◌∙◌, arith}
use Rattle.std.proofs.lemmas.Bool.Decides.{nat_tests}
use Rattle.std.proofs.lemmas.List.{take_all}
use Rattle.std.proofs.lemmas.Str.{IsUtf8-nil, IsUtf8-from_is_utf8, is_utf8-from_IsUtf8, utf8_valid_len-IsValidUpTo}
use Rattle.std.specs.Prelude.{IfErr, nat_lt, if◌then◌else◌}
use Rattle.std.specs.Str.{IsUtf8, is_utf8, IsValidUpTo}
use Rattle.std.specs.Str.Lossy.{utf8_valid_len, valid_len_up_to}
use Rattle.psl_text.specs.declared.fault.TextFault.{TextFault}
use Rattle.psl_text.specs.declared.fault.TextFault.TheVariants as fault
use Rattle.psl_text.specs.declared.tree.Block.{Block}
use Rattle.psl_text.specs.declared.tree.Tree.{Tree}
use Rattle.psl_text.specs.Lex.{tokens_of}
use Rattle.psl_text.specs.Parser.{Outcome}
use Rattle.psl_text.specs.Grammar.{max_length, with_length, blocks, tree_of, Answers}
use Rattle.psl_text.specs.Derives.{IsText, HasTree}
use Rattle.psl_text.specs.Faults.{HasFault}
use Rattle.psl_text.proofs.Whole.{tree_of_text}
use Rattle.psl_text.proofs.BlockRules.{tree_is_read, tree_is_derived}
use Rattle.psl_text.proofs.Cutting.{tokens_are, tokens_only}
use Rattle.psl_text.proofs.FaultBlocks.{blocks_refuse}

-- ---- UTF-8

-- the longest front that is UTF-8, among those up to some length
record IsLongest (text : List ℕ) (limit n : ℕ) : Type 0 where
  pub within : n ≤ limit
  pub front : IsUtf8 (take n text)
  pub longest : (m : ℕ) → n < m → m ≤ limit → IsUtf8 (take m text) → ⊥

no_longer : (text : List ℕ) (limit n m : ℕ) (c : Bool) → IsLongest text limit n → is_utf8 (take (suc limit) text) ≡ false → n < m → m ≤ suc limit → IsUtf8 (take m text) → nat_lt limit m ≡ c → ⊥
no_longer text limit n m true is e a b u t =
    let same : m ≡ suc limit = grind (arith, nat_tests) in
    let valid = is_utf8-from_IsUtf8 (take (suc limit) text) (subst (λ k. IsUtf8 (take k text)) same u) in absurd (cc)
no_longer text limit n m false is e a b u t = is.longest m a (grind (arith, nat_tests)) u

one_longer : (text : List ℕ) (limit n : ℕ) (b : Bool) → IsLongest text limit n → is_utf8 (take (suc limit) text) ≡ b → IsLongest text (suc limit) (cond b (suc limit) n)
one_longer text limit n true is e = record { within = omega arith; front = IsUtf8-from_is_utf8 (take (suc limit) text) e; longest = λ m a b u. absurd (omega (arith, a, b)) }
one_longer text limit n false is e =
    let within = is.within in
    record { within = omega arith; front = is.front; longest = λ m a b u. no_longer text limit n m (nat_lt limit m) is e a b u refl }

nothing : (text : List ℕ) → take 0 text ≡ []
nothing text = refl

longest_front : (text : List ℕ) (limit : ℕ) → IsLongest text limit (valid_len_up_to text limit)
longest_front text zero = record { within = omega arith; front = subst IsUtf8 (sym (nothing text)) IsUtf8-nil; longest = λ m a b u. absurd (omega (arith, a, b)) }
longest_front text (suc limit) = one_longer text limit (valid_len_up_to text limit) (is_utf8 (take (suc limit) text)) (longest_front text limit) refl

-- the whole text is its front of any greater length
whole_front : (text : List ℕ) (m : ℕ) → length text ≤ m → take m text ≡ take (length text) text
whole_front text m h = take_all m text h ∙ sym (take_all (length text) text (omega arith))

valid_front : (text : List ℕ) → IsLongest text (length text) (utf8_valid_len text)
unfolding utf8_valid_len
valid_front text = longest_front text (length text)

valid_up_to : (text : List ℕ) → utf8_valid_len text < length text → IsValidUpTo text (utf8_valid_len text)
valid_up_to text short = record { short = short; front = (valid_front text).front; longest = λ m a u. no_front m a u (nat_lt (length text) m) refl }
  where
    no_front : (m : ℕ) → utf8_valid_len text < m → IsUtf8 (take m text) → (b : Bool) → nat_lt (length text) m ≡ b → ⊥
    no_front m a u true t = (valid_front text).longest (length text) short (omega arith) (subst IsUtf8 (whole_front text m (grind (arith, nat_tests))) u)
    no_front m a u false t = (valid_front text).longest m a (grind (arith, nat_tests)) u

all_valid : (text : List ℕ) → length text ≤ utf8_valid_len text → IsUtf8 text
all_valid text long = subst IsUtf8 (take_all (utf8_valid_len text) text long) (valid_front text).front

-- ---- what is refused has that fault

abbrev failed : TextFault → Result Tree TextFault
failed f = Err f

has_it : (text : List ℕ) (f e : TextFault) → failed f ≡ failed e → HasFault text f → HasFault text e
has_it text f e h has = let same : f ≡ e = cc in subst (HasFault text) same has

with_length_err : (n : ℕ) (o : Outcome (List Block)) (e : TextFault) → with_length n o ≡ failed e → o ≡ Err e
with_length_err n (Ok p) e h = absurd (cc)
with_length_err n (Err f) e h = let same : f ≡ e = cc in ap (λ z. Err z) same

stops_found : (text : List ℕ) (e : TextFault) → IsText text → with_length (length text) (blocks (tokens_of text)) ≡ failed e → HasFault text e
stops_found text e is h =
    let s = blocks_refuse.found (tokens_of text) e (with_length_err (length text) (blocks (tokens_of text)) e h) in
    subst (HasFault text) (sym s.2) (HasFault.stops is (tokens_are text) s.1)

utf8_found : (text : List ℕ) (e : TextFault) (b : Bool) → length text ≤ max_length → nat_lt (utf8_valid_len text) (length text) ≡ b
    → cond b (failed (fault.NotUtf8 (utf8_valid_len text))) (with_length (length text) (blocks (tokens_of text))) ≡ failed e → HasFault text e
utf8_found text e true short t h = has_it text (fault.NotUtf8 (utf8_valid_len text)) e h (HasFault.not_utf8 short (valid_up_to text (grind (arith, nat_tests))))
utf8_found text e false short t h = stops_found text e (record { short = short; utf8 = all_valid text (grind (arith, nat_tests)) }) h

length_found : (text : List ℕ) (e : TextFault) (b : Bool) → nat_lt max_length (length text) ≡ b
    → cond b (failed (fault.TooLong max_length)) (if nat_lt (utf8_valid_len text) (length text) then failed (fault.NotUtf8 (utf8_valid_len text)) else with_length (length text) (blocks (tokens_of text))) ≡ failed e
    → HasFault text e
length_found text e true t h = has_it text (fault.TooLong max_length) e h (HasFault.too_long (grind (arith, nat_tests)))
length_found text e false t h = utf8_found text e (nat_lt (utf8_valid_len text) (length text)) (grind (arith, nat_tests)) refl h

pub fault_is_derived : (text : List ℕ) (e : TextFault) → tree_of text ≡ Err e → HasFault text e
unfolding tree_of
fault_is_derived text e h = length_found text e (nat_lt max_length (length text)) refl h

-- ---- what has a fault is refused with it

pub fault_is_found : (text : List ℕ) (e : TextFault) → HasFault text e → tree_of text ≡ Err e
unfolding tree_of
fault_is_found text e (HasFault.too_long long) =
    let first : nat_lt max_length (length text) ≡ true = grind (arith, nat_tests) in
    ap (λ b. cond b (failed (fault.TooLong max_length)) (if nat_lt (utf8_valid_len text) (length text) then failed (fault.NotUtf8 (utf8_valid_len text)) else with_length (length text) (blocks (tokens_of text)))) first
fault_is_found text e (HasFault.not_utf8 {n} short valid) =
    let same : utf8_valid_len text ≡ n = utf8_valid_len-IsValidUpTo text n valid in
    let below : n < length text = valid.short in
    let first : nat_lt max_length (length text) ≡ false = grind (arith, nat_tests) in
    let second : nat_lt (utf8_valid_len text) (length text) ≡ true = grind (arith, nat_tests) in
    ap (λ b. cond b (failed (fault.TooLong max_length)) (if nat_lt (utf8_valid_len text) (length text) then failed (fault.NotUtf8 (utf8_valid_len text)) else with_length (length text) (blocks (tokens_of text)))) first
    ∙ ap (λ b. cond b (failed (fault.NotUtf8 (utf8_valid_len text))) (with_length (length text) (blocks (tokens_of text)))) second
    ∙ ap (λ k. failed (fault.NotUtf8 k)) same
fault_is_found text e (HasFault.stops {tokens} {us} is cut d) =
    tree_of_text text is.short is.utf8 ∙ ap (λ ts. with_length (length text) (blocks ts)) (sym (tokens_only text tokens cut)) ∙ ap (with_length (length text)) (blocks_refuse.stops tokens us d)

-- what has a tree is a text
utf8_read : (text : List ℕ) (tree : Tree) (b : Bool) → nat_lt (utf8_valid_len text) (length text) ≡ b
    → cond b (failed (fault.NotUtf8 (utf8_valid_len text))) (with_length (length text) (blocks (tokens_of text))) ≡ Ok tree → IsUtf8 text
utf8_read text tree true t h = absurd (cc)
utf8_read text tree false t h = all_valid text (grind (arith, nat_tests))

length_read : (text : List ℕ) (tree : Tree) (b : Bool) → nat_lt max_length (length text) ≡ b
    → cond b (failed (fault.TooLong max_length)) (if nat_lt (utf8_valid_len text) (length text) then failed (fault.NotUtf8 (utf8_valid_len text)) else with_length (length text) (blocks (tokens_of text))) ≡ Ok tree
    → IsText text
length_read text tree true t h = absurd (cc)
length_read text tree false t h = record { short = grind (arith, nat_tests); utf8 = utf8_read text tree (nat_lt (utf8_valid_len text) (length text)) refl h }

read_is_text : (text : List ℕ) (tree : Tree) → tree_of text ≡ Ok tree → IsText text
unfolding tree_of
read_is_text text tree h = length_read text tree (nat_lt max_length (length text)) refl h

-- ---- what is answered

pub found_fault : (text : List ℕ) (answer : Result Tree TextFault) → Answers (tree_of text) answer → IfErr answer (λ e. e ≢ fault.Memory → HasFault text e)
found_fault text (Ok tree) e = tt
found_fault text (Err f) e = λ kept. fault_is_derived text f (e kept)

pub only_fault : (text : List ℕ) (answer : Result Tree TextFault) → Answers (tree_of text) answer → (f : TextFault) → HasFault text f → Answers (Err f) answer
only_fault text answer e f h = subst (λ r. Answers r answer) (fault_is_found text f h) e

-- ---- what holds of every text

pub long_refused : (text : List ℕ) → max_length < length text → HasFault text (fault.TooLong max_length)
long_refused text long = HasFault.too_long long

pub one_fault_only : (text : List ℕ) (e f : TextFault) → HasFault text e → HasFault text f → e ≡ f
one_fault_only text e f h k = let a = fault_is_found text e h in let b = fault_is_found text f k in cc

pub tree_or_fault_only : (text : List ℕ) (tree : Tree) (e : TextFault) → HasTree text tree → HasFault text e → ⊥
tree_or_fault_only text tree e h k = let a = tree_is_read text tree h in let b = fault_is_found text e k in absurd (cc)

some_answer_by : (text : List ℕ) (answer : Result Tree TextFault) → tree_of text ≡ answer → ((tree : Tree) × HasTree text tree) ⊎ ((e : TextFault) × HasFault text e)
some_answer_by text (Ok tree) e = inl (tree, tree_is_derived text tree (read_is_text text tree e) e)
some_answer_by text (Err f) e = inr (f, fault_is_derived text f e)

pub tree_or_fault : (text : List ℕ) → ((tree : Tree) × HasTree text tree) ⊎ ((e : TextFault) × HasFault text e)
tree_or_fault text = some_answer_by text (tree_of text) refl
