-- Entries: what is read is derived, and what is derived is read.
use Rattle.std.proofs.Common.{◌≡◌, ℕ, zero, suc, ◌<◌, ◌≤◌, Bool, true, false, cond, List, [], ◌∷◌, ◌++◌, length, Ok, inl, inr, refl, sym, ap, subst, ◌∙◌, arith, append_assoc}
use Rattle.std.proofs.lemmas.List.{append-nil}
use Rattle.psl_text.specs.declared.token.Kind.{Kind}
use Rattle.psl_text.specs.declared.token.Kind.TheVariants as kind
use Rattle.psl_text.specs.declared.token.Token.{Token}
use Rattle.psl_text.specs.declared.tree.Name.{Name}
use Rattle.psl_text.specs.declared.tree.Attribute.{Attribute}
use Rattle.psl_text.specs.declared.tree.Mark.{Mark}
use Rattle.psl_text.specs.declared.tree.Mark.TheVariants as mark
use Rattle.psl_text.specs.declared.tree.Entry.{Entry}
use Rattle.psl_text.specs.declared.tree.Entry.TheVariants as entry
use Rattle.psl_text.specs.declared.tree.Term.{Term}
use Rattle.psl_text.specs.declared.tree.Word.{Word}
use Rattle.psl_text.specs.declared.tree.Word.TheVariants as word
use Rattle.psl_text.specs.Parser.{Parser, and_then, ◌>>=◌, ◌>>◌, pure, sees, same_kind, docs_of, eat, expect, name}
use Rattle.psl_text.specs.Grammar.{max_depth, whole_term, block_attribute, attributes, mark_of, setting, field, member, of_block, entry_of, ending, entries_from, entries}
use Rattle.psl_text.specs.Derives.{Sign, Spelled, IsTerm, IsAttribute, IsMark, IsEntry, Ends, AreEntries}
use Rattle.psl_text.proofs.Steps.{bind_ok, ok_value, ok_rest, IsInside, when_ok, when_yes, when_no, expect_ok, expect_sign, spelled_ok, spelled_is, spelled_sees, sign_sees, sees_sign, sign_other, sign_shrinks}
use Rattle.psl_text.proofs.Separate.{Stops}
use Rattle.psl_text.proofs.TermRules.{IsStop, stops, name_inside, name_self, bracket_inside, bracket_self, close_bracket_inside, close_bracket_self}
use Rattle.psl_text.proofs.LevelRules.{term_value}
use Rattle.psl_text.proofs.AttributeRules.{finish, block_attribute_ok, block_attribute_is, block_attribute_shrinks, attributes_ok, attributes_is, attributes_begin, attributes_shrink}

pub question_inside : IsInside kind.Question
unfolding same_kind
question_inside = record { other = refl }

pub question_self : same_kind kind.Question kind.Question ≡ true
unfolding same_kind
question_self = refl

pub equals_inside : IsInside kind.Equals
unfolding same_kind
equals_inside = record { other = refl }

pub equals_self : same_kind kind.Equals kind.Equals ≡ true
unfolding same_kind
equals_self = refl

pub at_at_inside : IsInside kind.AtAt
unfolding same_kind
at_at_inside = record { other = refl }

pub at_at_self : same_kind kind.AtAt kind.AtAt ≡ true
unfolding same_kind
at_at_self = refl

pub newline_inside : IsInside kind.Newline
unfolding same_kind
newline_inside = record { other = refl }

pub newline_self : same_kind kind.Newline kind.Newline ≡ true
unfolding same_kind
newline_self = refl

pub brace_inside : IsInside kind.CloseBrace
unfolding same_kind
brace_inside = record { other = refl }

pub brace_self : same_kind kind.CloseBrace kind.CloseBrace ≡ true
unfolding same_kind
brace_self = refl

-- ---- the end of an entry

pub ends_ok : (ts : List Token) (u : Unit {0}) (rest : List Token) → ending ts ≡ Ok (u, rest) → Ends ts rest
unfolding ending
ends_ok ts u rest e = by_test (sees kind.CloseBrace ts) refl e
  where
    by_test : (b : Bool) → sees kind.CloseBrace ts ≡ b → cond b (Ok (tt, ts)) (expect kind.Newline ts) ≡ Ok (u, rest) → Ends ts rest
    by_test true seen e = subst (Ends ts) (ok_rest tt u ts rest e) (Ends.brace (sees_sign kind.CloseBrace ts brace_inside seen))
    by_test false seen e = Ends.newline (expect_ok kind.Newline ts rest u newline_inside e)

pub ends_is : (ts rest : List Token) → Ends ts rest → ending ts ≡ Ok (tt, rest)
unfolding ending same_kind
ends_is ts rest (Ends.newline s) =
    ap (λ b. cond b (Ok (tt, ts)) (expect kind.Newline ts)) (sign_other kind.Newline kind.CloseBrace ts rest refl s) ∙ expect_sign kind.Newline ts rest newline_self s
ends_is ts rest (Ends.brace {us} s) = ap (λ b. cond b (Ok (tt, ts)) (expect kind.Newline ts)) (sign_sees kind.CloseBrace ts us brace_self s).0

-- what follows an entry
pub record Follows (ts : List Token) : Type 0 where
  pub stop : Stops ts
  pub no_at : sees kind.At ts ≡ false
  pub no_question : sees kind.Question ts ≡ false
  pub no_bracket : sees kind.OpenBracket ts ≡ false
  pub some : 0 < length ts

stop_newline : IsStop kind.Newline
unfolding same_kind
stop_newline = record { no_arguments = refl; no_name = refl; no_dot = refl; no_fault = refl }

stop_brace : IsStop kind.CloseBrace
unfolding same_kind
stop_brace = record { no_arguments = refl; no_name = refl; no_dot = refl; no_fault = refl }

pub ends_follow : (ts rest : List Token) → Ends ts rest → Follows ts
unfolding same_kind
ends_follow ts rest (Ends.newline s) = record {
  stop = stops kind.Newline ts rest stop_newline s;
  no_at = sign_other kind.Newline kind.At ts rest refl s;
  no_question = sign_other kind.Newline kind.Question ts rest refl s;
  no_bracket = sign_other kind.Newline kind.OpenBracket ts rest refl s;
  some = omega (arith, sign_shrinks kind.Newline ts rest s);
}
ends_follow ts rest (Ends.brace {us} s) = record {
  stop = stops kind.CloseBrace ts us stop_brace s;
  no_at = sign_other kind.CloseBrace kind.At ts us refl s;
  no_question = sign_other kind.CloseBrace kind.Question ts us refl s;
  no_bracket = sign_other kind.CloseBrace kind.OpenBracket ts us refl s;
  some = omega (arith, sign_shrinks kind.CloseBrace ts us s);
}

pub ends_shrink : (ts rest : List Token) → Ends ts rest → length rest ≤ length ts
ends_shrink ts rest (Ends.newline s) = omega (arith, sign_shrinks kind.Newline ts rest s)
ends_shrink ts rest (Ends.brace s) = omega arith

-- ---- marks

pub mark_ok : (ts : List Token) (m : Mark) (rest : List Token) → mark_of ts ≡ Ok (m, rest) → IsMark ts m rest
unfolding mark_of
mark_ok ts m rest e =
    elim (when_ok kind.Question ts (pure mark.Optional) (eat kind.OpenBracket >>= λ opens. cond opens (expect kind.CloseBracket >> pure mark.Many) (pure mark.One)) m rest question_inside e) [
      | inl asks ↦ finish (IsMark ts) mark.Optional m asks.0 rest asks.2 (IsMark.optional asks.1)
      | inr other ↦
          elim (when_ok kind.OpenBracket ts (expect kind.CloseBracket >> pure mark.Many) (pure mark.One) m rest bracket_inside other.1) [
            | inl opens ↦
                let closing = bind_ok (expect kind.CloseBracket opens.0) (λ _. pure mark.Many) m rest opens.2 in
                finish (IsMark ts) mark.Many m closing.1 rest closing.3 (IsMark.many opens.1 (expect_ok kind.CloseBracket opens.0 closing.1 closing.0 close_bracket_inside closing.2))
            | inr none ↦ finish (IsMark ts) mark.One m ts rest none.1 IsMark.one
          ]
    ]

pub mark_is : (ts : List Token) (m : Mark) (rest : List Token) → IsMark ts m rest → sees kind.Question rest ≡ false → sees kind.OpenBracket rest ≡ false → mark_of ts ≡ Ok (m, rest)
unfolding mark_of same_kind
mark_is ts m rest IsMark.one no_question no_bracket =
    when_no kind.Question ts (pure mark.Optional) (eat kind.OpenBracket >>= λ opens. cond opens (expect kind.CloseBracket >> pure mark.Many) (pure mark.One)) no_question
    ∙ when_no kind.OpenBracket ts (expect kind.CloseBracket >> pure mark.Many) (pure mark.One) no_bracket
mark_is ts m rest (IsMark.optional s) no_question no_bracket =
    when_yes kind.Question ts rest (pure mark.Optional) (eat kind.OpenBracket >>= λ opens. cond opens (expect kind.CloseBracket >> pure mark.Many) (pure mark.One)) question_self s
mark_is ts m rest (IsMark.many {us} s c) no_question no_bracket =
    when_no kind.Question ts (pure mark.Optional) (eat kind.OpenBracket >>= λ opens. cond opens (expect kind.CloseBracket >> pure mark.Many) (pure mark.One)) (sign_other kind.OpenBracket kind.Question ts us refl s)
    ∙ when_yes kind.OpenBracket ts us (expect kind.CloseBracket >> pure mark.Many) (pure mark.One) bracket_self s
    ∙ ap (λ o. and_then o (λ _. pure mark.Many)) (expect_sign kind.CloseBracket us rest close_bracket_self c)

mark_shrinks : (ts : List Token) (m : Mark) (rest : List Token) → IsMark ts m rest → length rest ≤ length ts
mark_shrinks ts m rest IsMark.one = omega arith
mark_shrinks ts m rest (IsMark.optional s) = omega (arith, sign_shrinks kind.Question ts rest s)
mark_shrinks ts m rest (IsMark.many {us} s c) = omega (arith, sign_shrinks kind.OpenBracket ts us s, sign_shrinks kind.CloseBracket us rest c)

-- ---- what is read is derived

setting_ok : (w : Word) (of : (n : Name) (us vs : List Token) (v : Term) (ts rest : List Token) → Spelled kind.Name ts n us → Sign kind.Equals us vs → IsTerm max_depth vs v rest → IsEntry w ts (entry.Setting n v) rest)
    → (ts : List Token) (e : Entry) (rest : List Token) → setting ts ≡ Ok (e, rest) → IsEntry w ts e rest
unfolding setting
setting_ok w of ts e rest h =
    let first = bind_ok (name ts) (λ n. expect kind.Equals >> (whole_term >>= λ v. pure (entry.Setting n v))) e rest h in
    let second = bind_ok (expect kind.Equals first.1) (λ _. whole_term >>= λ v. pure (entry.Setting first.0 v)) e rest first.3 in
    let third = bind_ok (whole_term second.1) (λ v. pure (entry.Setting first.0 v)) e rest second.3 in
    finish (IsEntry w ts) (entry.Setting first.0 third.0) e third.1 rest third.3
    (of first.0 first.1 second.1 third.0 ts third.1 (spelled_ok kind.Name ts first.1 first.0 name_inside first.2) (expect_ok kind.Equals first.1 second.1 second.0 equals_inside second.2)
    ((term_value max_depth).read second.1 third.0 third.1 third.2))

field_ok : (ts : List Token) (e : Entry) (rest : List Token) → field (docs_of ts) ts ≡ Ok (e, rest) → IsEntry word.Model ts e rest
unfolding field
field_ok ts e rest h =
    let above = docs_of ts in
    let first = bind_ok (name ts) (λ n. name >>= λ k. mark_of >>= λ m. attributes >>= λ found. pure (entry.Field n k m found (docs_of ts))) e rest h in
    let second = bind_ok (name first.1) (λ k. mark_of >>= λ m. attributes >>= λ found. pure (entry.Field first.0 k m found (docs_of ts))) e rest first.3 in
    let third = bind_ok (mark_of second.1) (λ m. attributes >>= λ found. pure (entry.Field first.0 second.0 m found (docs_of ts))) e rest second.3 in
    let fourth = bind_ok (attributes third.1) (λ found. pure (entry.Field first.0 second.0 third.0 found (docs_of ts))) e rest third.3 in
    finish (IsEntry word.Model ts) (entry.Field first.0 second.0 third.0 fourth.0 (docs_of ts)) e fourth.1 rest fourth.3
    (IsEntry.field {us = first.1} {vs = second.1} {ws = third.1} {rest = fourth.1} {n = first.0} {k = second.0} {m = third.0} {found = fourth.0} (spelled_ok kind.Name ts first.1 first.0 name_inside first.2) (spelled_ok kind.Name first.1 second.1 second.0 name_inside second.2) (mark_ok second.1 third.0 third.1 third.2)
    (attributes_ok third.1 fourth.0 fourth.1 fourth.2))

member_ok : (ts : List Token) (e : Entry) (rest : List Token) → member (docs_of ts) ts ≡ Ok (e, rest) → IsEntry word.Enum ts e rest
unfolding member
member_ok ts e rest h =
    let first = bind_ok (name ts) (λ n. attributes >>= λ found. pure (entry.Member n found (docs_of ts))) e rest h in
    let second = bind_ok (attributes first.1) (λ found. pure (entry.Member first.0 found (docs_of ts))) e rest first.3 in
    finish (IsEntry word.Enum ts) (entry.Member first.0 second.0 (docs_of ts)) e second.1 rest second.3
    (IsEntry.member (spelled_ok kind.Name ts first.1 first.0 name_inside first.2) (attributes_ok first.1 second.0 second.1 second.2))

of_block_ok : (w : Word) (other : List (List ℕ) → Parser Entry)
    (of : (a : Attribute) (ts us rest : List Token) → Sign kind.AtAt ts us → IsAttribute (Spelled kind.Name) us a rest → IsEntry w ts (entry.Block a (docs_of ts)) rest)
    (other_ok : (ts : List Token) (e : Entry) (rest : List Token) → other (docs_of ts) ts ≡ Ok (e, rest) → IsEntry w ts e rest)
    → (ts : List Token) (e : Entry) (rest : List Token) → of_block other ts ≡ Ok (e, rest) → IsEntry w ts e rest
unfolding of_block
of_block_ok w other of other_ok ts e rest h =
    elim (when_ok kind.AtAt ts (block_attribute >>= λ found. pure (entry.Block found (docs_of ts))) (other (docs_of ts)) e rest at_at_inside h) [
      | inl at ↦
          let first = bind_ok (block_attribute at.0) (λ found. pure (entry.Block found (docs_of ts))) e rest at.2 in
          finish (IsEntry w ts) (entry.Block first.0 (docs_of ts)) e first.1 rest first.3 (of first.0 ts at.0 first.1 at.1 (block_attribute_ok at.0 first.0 first.1 first.2))
      | inr no_at ↦ other_ok ts e rest no_at.1
    ]

pub entry_ok : (w : Word) (ts : List Token) (e : Entry) (rest : List Token) → entry_of w ts ≡ Ok (e, rest) → IsEntry w ts e rest
unfolding entry_of
entry_ok word.Datasource ts e rest h = setting_ok word.Datasource (λ n us vs v zs r s q t. IsEntry.source_setting s q t) ts e rest h
entry_ok word.Generator ts e rest h = setting_ok word.Generator (λ n us vs v zs r s q t. IsEntry.generator_setting s q t) ts e rest h
entry_ok word.Model ts e rest h = of_block_ok word.Model field (λ a zs us r s t. IsEntry.of_model s t) field_ok ts e rest h
entry_ok word.Enum ts e rest h = of_block_ok word.Enum member (λ a zs us r s t. IsEntry.of_enum s t) member_ok ts e rest h

-- ---- what is derived is read

setting_is : (ts us vs : List Token) (n : Name) (v : Term) (rest : List Token) → Spelled kind.Name ts n us → Sign kind.Equals us vs → IsTerm max_depth vs v rest → Stops rest → setting ts ≡ Ok (entry.Setting n v, rest)
unfolding setting
setting_is ts us vs n v rest s q t stop =
    ap (λ o. and_then o (λ m. expect kind.Equals >> (whole_term >>= λ x. pure (entry.Setting m x)))) (spelled_is kind.Name ts us n name_self s)
    ∙ ap (λ o. and_then o (λ _. whole_term >>= λ x. pure (entry.Setting n x))) (expect_sign kind.Equals us vs equals_self q)
    ∙ ap (λ o. and_then o (λ x. pure (entry.Setting n x))) ((term_value max_depth).found vs v rest t stop)

of_block_attribute : (other : List (List ℕ) → Parser Entry) (ts us : List Token) (a : Attribute) (rest : List Token) → Sign kind.AtAt ts us → IsAttribute (Spelled kind.Name) us a rest → Stops rest
    → of_block other ts ≡ Ok (entry.Block a (docs_of ts), rest)
unfolding of_block
of_block_attribute other ts us a rest s h stop =
    when_yes kind.AtAt ts us (block_attribute >>= λ found. pure (entry.Block found (docs_of ts))) (other (docs_of ts)) at_at_self s
    ∙ ap (λ o. and_then o (λ found. pure (entry.Block found (docs_of ts)))) (block_attribute_is us a rest h stop)

pub of_block_other : (other : List (List ℕ) → Parser Entry) (ts us : List Token) (n : Name) → Spelled kind.Name ts n us → of_block other ts ≡ other (docs_of ts) ts
unfolding of_block same_kind
of_block_other other ts us n s =
    when_no kind.AtAt ts (block_attribute >>= λ found. pure (entry.Block found (docs_of ts))) (other (docs_of ts)) (sign_other kind.Name kind.AtAt ts us refl (spelled_sees kind.Name ts n us s))

pub entry_is : (w : Word) (ts : List Token) (e : Entry) (rest : List Token) → IsEntry w ts e rest → Follows rest → entry_of w ts ≡ Ok (e, rest)
unfolding entry_of field member same_kind
entry_is w ts e rest (IsEntry.source_setting {us} {vs} {n} {v} s q t) f = setting_is ts us vs n v rest s q t f.stop
entry_is w ts e rest (IsEntry.generator_setting {us} {vs} {n} {v} s q t) f = setting_is ts us vs n v rest s q t f.stop
entry_is w ts e rest (IsEntry.field {us} {vs} {ws} {n} {k} {m} {found} s t h d) f =
    of_block_other field ts us n s
    ∙ ap (λ o. and_then o (λ x. name >>= λ y. mark_of >>= λ z. attributes >>= λ a. pure (entry.Field x y z a (docs_of ts)))) (spelled_is kind.Name ts us n name_self s)
    ∙ ap (λ o. and_then o (λ y. mark_of >>= λ z. attributes >>= λ a. pure (entry.Field n y z a (docs_of ts)))) (spelled_is kind.Name us vs k name_self t)
    ∙ ap (λ o. and_then o (λ z. attributes >>= λ a. pure (entry.Field n k z a (docs_of ts))))
    (mark_is vs m ws h (attributes_begin kind.Question ws found rest refl d f.no_question) (attributes_begin kind.OpenBracket ws found rest refl d f.no_bracket))
    ∙ ap (λ o. and_then o (λ a. pure (entry.Field n k m a (docs_of ts)))) (attributes_is ws found rest d f.stop f.no_at f.some)
entry_is w ts e rest (IsEntry.member {us} {n} {found} s d) f =
    of_block_other member ts us n s
    ∙ ap (λ o. and_then o (λ x. attributes >>= λ a. pure (entry.Member x a (docs_of ts)))) (spelled_is kind.Name ts us n name_self s)
    ∙ ap (λ o. and_then o (λ a. pure (entry.Member n a (docs_of ts)))) (attributes_is us found rest d f.stop f.no_at f.some)
entry_is w ts e rest (IsEntry.of_model {us} {a} s h) f = of_block_attribute field ts us a rest s h f.stop
entry_is w ts e rest (IsEntry.of_enum {us} {a} s h) f = of_block_attribute member ts us a rest s h f.stop

pub entry_begins : (l : Kind) (w : Word) (ts : List Token) (e : Entry) (rest : List Token) → same_kind kind.Name l ≡ false → same_kind kind.AtAt l ≡ false → IsEntry w ts e rest → sees l ts ≡ false
entry_begins l w ts e rest a b (IsEntry.source_setting {us} {n} s q t) = sign_other kind.Name l ts us a (spelled_sees kind.Name ts n us s)
entry_begins l w ts e rest a b (IsEntry.generator_setting {us} {n} s q t) = sign_other kind.Name l ts us a (spelled_sees kind.Name ts n us s)
entry_begins l w ts e rest a b (IsEntry.field {us} {n} s t h d) = sign_other kind.Name l ts us a (spelled_sees kind.Name ts n us s)
entry_begins l w ts e rest a b (IsEntry.member {us} {n} s d) = sign_other kind.Name l ts us a (spelled_sees kind.Name ts n us s)
entry_begins l w ts e rest a b (IsEntry.of_model {us} s h) = sign_other kind.AtAt l ts us b s
entry_begins l w ts e rest a b (IsEntry.of_enum {us} s h) = sign_other kind.AtAt l ts us b s

pub entry_shrinks : (w : Word) (ts : List Token) (e : Entry) (rest : List Token) → IsEntry w ts e rest → length rest < length ts
entry_shrinks w ts e rest (IsEntry.source_setting {us} {vs} {n} {v} s q t) =
    omega (arith, sign_shrinks kind.Name ts us (spelled_sees kind.Name ts n us s), sign_shrinks kind.Equals us vs q, (term_value max_depth).shrinks vs v rest t)
entry_shrinks w ts e rest (IsEntry.generator_setting {us} {vs} {n} {v} s q t) =
    omega (arith, sign_shrinks kind.Name ts us (spelled_sees kind.Name ts n us s), sign_shrinks kind.Equals us vs q, (term_value max_depth).shrinks vs v rest t)
entry_shrinks w ts e rest (IsEntry.field {us} {vs} {ws} {n} {k} {m} {found} s t h d) =
    omega (arith, sign_shrinks kind.Name ts us (spelled_sees kind.Name ts n us s), sign_shrinks kind.Name us vs (spelled_sees kind.Name us k vs t), mark_shrinks vs m ws h, attributes_shrink ws found rest d)
entry_shrinks w ts e rest (IsEntry.member {us} {n} {found} s d) = omega (arith, sign_shrinks kind.Name ts us (spelled_sees kind.Name ts n us s), attributes_shrink us found rest d)
entry_shrinks w ts e rest (IsEntry.of_model {us} {a} s h) = omega (arith, sign_shrinks kind.AtAt ts us s, block_attribute_shrinks us a rest h)
entry_shrinks w ts e rest (IsEntry.of_enum {us} {a} s h) = omega (arith, sign_shrinks kind.AtAt ts us s, block_attribute_shrinks us a rest h)

-- ---- runs of entries

-- a turn that is no closing brace
abbrev turn : Word → ℕ → List Entry → Parser (List Entry)
turn w n found = eat kind.Newline >>= λ is_blank. cond is_blank (entries_from w n found) (entry_of w >>= λ next. ending >> entries_from w n (found ++ next ∷ []))

entries_from_ok : (w : Word) (n : ℕ) (found : List Entry) (ts : List Token) (xs : List Entry) (rest : List Token) → entries_from w n found ts ≡ Ok (xs, rest)
    → (ys : List Entry) × (xs ≡ found ++ ys) × AreEntries w ts ys rest
unfolding entries_from
entries_from_ok w zero found ts xs rest e = absurd (cc)
entries_from_ok w (suc n) found ts xs rest e =
    elim (when_ok kind.CloseBrace ts (pure found) (turn w n found) xs rest brace_inside e) [
      | inl closes ↦
          ([], sym (ok_value found xs closes.0 rest closes.2) ∙ sym (append-nil found), AreEntries.closed (subst (Sign kind.CloseBrace ts) (ok_rest found xs closes.0 rest closes.2) closes.1))
      | inr other ↦
          elim (when_ok kind.Newline ts (entries_from w n found) (entry_of w >>= λ next. ending >> entries_from w n (found ++ next ∷ [])) xs rest newline_inside other.1) [
            | inl blank ↦ let later = entries_from_ok w n found blank.0 xs rest blank.2 in (later.0, later.1, AreEntries.blank blank.1 later.2)
            | inr goes ↦
                let first = bind_ok (entry_of w ts) (λ next. ending >> entries_from w n (found ++ next ∷ [])) xs rest goes.1 in
                let second = bind_ok (ending first.1) (λ _. entries_from w n (found ++ first.0 ∷ [])) xs rest first.3 in
                let later = entries_from_ok w n (found ++ first.0 ∷ []) second.1 xs rest second.3 in
                (first.0 ∷ later.0, later.1 ∙ append_assoc found (first.0 ∷ []) later.0, AreEntries.more (entry_ok w ts first.0 first.1 first.2) (ends_ok first.1 second.0 second.1 second.2) later.2)
          ]
    ]

pub entries_shrink : (w : Word) (ts : List Token) (xs : List Entry) (rest : List Token) → AreEntries w ts xs rest → length rest < length ts
entries_shrink w ts xs rest (AreEntries.closed s) = sign_shrinks kind.CloseBrace ts rest s
entries_shrink w ts xs rest (AreEntries.blank {us} s d) = omega (arith, sign_shrinks kind.Newline ts us s, entries_shrink w us xs rest d)
entries_shrink w ts xs rest (AreEntries.more {us} {vs} {e} {es} h k d) = omega (arith, entry_shrinks w ts e us h, ends_shrink us vs k, entries_shrink w vs es rest d)

entries_from_is : (w : Word) (n : ℕ) (found : List Entry) (ts : List Token) (xs : List Entry) (rest : List Token) → AreEntries w ts xs rest → length ts ≤ n → entries_from w n found ts ≡ Ok (found ++ xs, rest)
unfolding entries_from same_kind
entries_from_is w zero found ts xs rest d small = absurd (omega (arith, entries_shrink w ts xs rest d))
entries_from_is w (suc n) found ts xs rest (AreEntries.closed s) small =
    when_yes kind.CloseBrace ts rest (pure found) (turn w n found) brace_self s ∙ ap (λ zs. Ok (zs, rest)) (sym (append-nil found))
entries_from_is w (suc n) found ts xs rest (AreEntries.blank {us} s d) small =
    when_no kind.CloseBrace ts (pure found) (turn w n found) (sign_other kind.Newline kind.CloseBrace ts us refl s)
    ∙ when_yes kind.Newline ts us (entries_from w n found) (entry_of w >>= λ next. ending >> entries_from w n (found ++ next ∷ [])) newline_self s
    ∙ entries_from_is w n found us xs rest d (omega (arith, sign_shrinks kind.Newline ts us s))
entries_from_is w (suc n) found ts xs rest (AreEntries.more {us} {vs} {e} {es} h k d) small =
    when_no kind.CloseBrace ts (pure found) (turn w n found) (entry_begins kind.CloseBrace w ts e us refl refl h)
    ∙ when_no kind.Newline ts (entries_from w n found) (entry_of w >>= λ next. ending >> entries_from w n (found ++ next ∷ [])) (entry_begins kind.Newline w ts e us refl refl h)
    ∙ ap (λ o. and_then o (λ next. ending >> entries_from w n (found ++ next ∷ []))) (entry_is w ts e us h (ends_follow us vs k))
    ∙ ap (λ o. and_then o (λ _. entries_from w n (found ++ e ∷ []))) (ends_is us vs k)
    ∙ entries_from_is w n (found ++ e ∷ []) vs es rest d (omega (arith, entry_shrinks w ts e us h, ends_shrink us vs k))
    ∙ ap (λ zs. Ok (zs, rest)) (append_assoc found (e ∷ []) es)

pub entries_ok : (w : Word) (ts : List Token) (xs : List Entry) (rest : List Token) → entries w ts ≡ Ok (xs, rest) → AreEntries w ts xs rest
unfolding entries
entries_ok w ts xs rest e = let found = entries_from_ok w (length ts) [] ts xs rest e in subst (λ ys. AreEntries w ts ys rest) (sym found.1) found.2

pub entries_is : (w : Word) (ts : List Token) (xs : List Entry) (rest : List Token) → AreEntries w ts xs rest → entries w ts ≡ Ok (xs, rest)
unfolding entries
entries_is w ts xs rest d = entries_from_is w (length ts) [] ts xs rest d (omega arith)
