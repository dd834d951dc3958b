-- The front of a file that was fetched, and how a command ends behind that.
use Rattle.std.proofs.Common.{◌≡◌, ℕ, zero, suc, ◌+◌, ◌<◌, ◌≤◌, List, [], ◌∷◌, Bool, true, false, refl, ap, subst, Option, Some, None, length, take, arith, inl, inr, ◌⊎◌, leb-true, leb-false}
use Rattle.std.specs.Prelude.{IfSome, IsSomeAnd, nat_le}
use Rattle.qe_base.specs.Outside.{Files, OnlyFetched, Seen, file_named}
use Rattle.qe_base.specs.Schemas.{Schema}
use Rattle.psl_text.specs.declared.fault.TextFault.{TextFault}
use Rattle.psl_text.specs.declared.fault.TextFault.TheVariants as fault
use Rattle.psl_text.specs.Faults.{HasFault}
use Rattle.psl_text.specs.Grammar.{max_length}
use Rattle.psl_text.proofs.FaultTexts.{one_fault_only, tree_or_fault_only, long_refused}
use Rattle.qe_cli.specs.Asked.{command_of}
use Rattle.qe_cli.specs.Command.{Comes, FileHolds, SchemaComes, WithSchema}
use Rattle.qe_cli.specs.Ends.{EndsFor, IsFetchFault}
use Rattle.qe_cli.specs.Refused.{HasSchema, Refuses, Unread}
use Rattle.qe_cli.specs.declared.End.{End}
use Rattle.qe_cli.specs.declared.End.TheVariants as end
use Rattle.qe_cli.specs.declared.refusal.Refusal.{Refusal}
use Rattle.qe_cli.specs.declared.refusal.Refusal.TheVariants as refusal
use Rattle.qe_cli.specs.declared.words.Command.{Command}
use Rattle.qe_cli.specs.declared.words.Command.TheVariants as command
use Rattle.qe_cli.proofs.Causes.{fetch_ends, counts_same}
use Rattle.qe_view.specs.Attached.{Connected}

take_whole : {A : Type 0} (n : ℕ) (xs : List A) → length xs ≤ n → take n xs ≡ xs
take_whole zero [] short = refl
take_whole zero (x ∷ xs) short = absurd (omega arith)
take_whole (suc n) [] short = refl
take_whole (suc n) (x ∷ xs) short = ap (λ l. x ∷ l) (take_whole n xs (omega arith))

take_long : {A : Type 0} (n : ℕ) (xs : List A) → n ≤ length xs → length (take n xs) ≡ n
take_long zero xs long = refl
take_long (suc n) [] long = absurd (omega arith)
take_long (suc n) (x ∷ xs) long = ap suc (take_long n xs (omega arith))

-- the first n + 1 bytes of a text are all of it, or both have more than n
front : (n : ℕ) (text : List ℕ) → (take (n + 1) text ≡ text) ⊎ ((n < length text) × (n < length (take (n + 1) text)))
front n text = by_length (nat_le (length text) n) refl
  where
    by_length : (b : Bool) → nat_le (length text) n ≡ b → (take (n + 1) text ≡ text) ⊎ ((n < length text) × (n < length (take (n + 1) text)))
    by_length true short = inl (take_whole (n + 1) text (omega (arith, leb-true _ _ short)))
    by_length false long = inr (omega (arith, leb-false _ _ long), omega (arith, leb-false _ _ long, take_long (n + 1) text))

-- What is told of the front of a text holds of the text, where of texts of more than n bytes it
-- is all the same.
of_front : (n : ℕ) (text : List ℕ) (P : List ℕ → Type 0) → ((a b : List ℕ) → n < length a → n < length b → P a → P b) → P (take (n + 1) text) → P text
of_front n text P alike here = from (front n text)
  where
    from : (take (n + 1) text ≡ text) ⊎ ((n < length text) × (n < length (take (n + 1) text))) → P text
    from (inl same) = subst P same here
    from (inr long) = alike (take (n + 1) text) text long.1 long.0 here

schema_alike : (schema : Schema) (a b : List ℕ) → max_length < length a → max_length < length b → HasSchema a schema → HasSchema b schema
schema_alike schema a b long other has = absurd (tree_or_fault_only a has.0 (fault.TooLong max_length) has.1 (long_refused a long))

fault_alike : (e : TextFault) (a b : List ℕ) → max_length < length a → max_length < length b → HasFault a e → HasFault b e
fault_alike e a b long other has = subst (HasFault b) (one_fault_only a (fault.TooLong max_length) e (long_refused a long) has) (long_refused b other)

refusal_alike : (why : Refusal) (a b : List ℕ) → max_length < length a → max_length < length b → Refuses why a → Refuses why b
refusal_alike (refusal.NotUtf8 at) a b long other has = fault_alike (fault.NotUtf8 at) a b long other has
refusal_alike (refusal.BadCharacter at) a b long other has = fault_alike (fault.BadCharacter at) a b long other has
refusal_alike (refusal.Unclosed at) a b long other has = fault_alike (fault.Unclosed at) a b long other has
refusal_alike (refusal.Unexpected at) a b long other has = fault_alike (fault.Unexpected at) a b long other has
refusal_alike (refusal.TooLong at) a b long other has = fault_alike (fault.TooLong at) a b long other has
refusal_alike (refusal.Broken rule at) a b long other has = absurd (tree_or_fault_only a has.0 (fault.TooLong max_length) has.1 (long_refused a long))

-- what is told of a file's front holds of the file
file_holds : (n : ℕ) (files : Option Files) (name text : List ℕ) (P : List ℕ → Type 0) → ((a b : List ℕ) → n < length a → n < length b → P a → P b) → P text → IfSome files (λ all. IsSomeAnd (file_named name all) (λ content. text ≡ take (n + 1) content)) → FileHolds files name P
file_holds n None name text P alike here bytes = tt
file_holds n (Some all) name text P alike here bytes = found (file_named name all) bytes
  where
    found : (file : Option (List ℕ)) → IsSomeAnd file (λ content. text ≡ take (n + 1) content) → IsSomeAnd file P
    found None bytes = bytes
    found (Some content) bytes = of_front n content P alike (subst P bytes here)

-- ---- how a command ends behind its words

with_schema : (e : End) (words : List (List ℕ)) (before after : Seen) (given back : Connected) (same : Type 0) (wanted : Command) (schema : Schema) (fetched : Seen) → SchemaComes wanted e schema fetched after given back same → WithSchema e words before after given back same → Comes e words before after given back same
with_schema end.Done words before after given back same wanted schema fetched c whole = whole
with_schema end.Usage words before after given back same wanted schema fetched c whole = absurd (no_usage wanted c)
  where
    no_usage : (wanted : Command) → SchemaComes wanted end.Usage schema fetched after given back same → ⊥
    no_usage command.Run c = c.0
    no_usage command.Validate c = c.0
    no_usage command.Layout c = c.0
with_schema (end.Refused why) words before after given back same wanted schema fetched c whole = absurd (no_refusal wanted c)
  where
    no_refusal : (wanted : Command) → SchemaComes wanted (end.Refused why) schema fetched after given back same → ⊥
    no_refusal command.Run c = c.0
    no_refusal command.Validate c = c.0
    no_refusal command.Layout c = c.0
with_schema end.FetchFault words before after given back same wanted schema fetched c whole = absurd (no_fetch wanted c)
  where
    no_fetch : (wanted : Command) → SchemaComes wanted end.FetchFault schema fetched after given back same → ⊥
    no_fetch command.Run c = c.0
    no_fetch command.Validate c = c.0
    no_fetch command.Layout c = c.0
with_schema end.ReadFault words before after given back same wanted schema fetched c whole = whole
with_schema end.WriteFault words before after given back same wanted schema fetched c whole = whole
with_schema end.Memory words before after given back same wanted schema fetched c whole = inr whole
with_schema (end.ConnectorFault first last) words before after given back same wanted schema fetched c whole = whole
with_schema end.LayoutDiffers words before after given back same wanted schema fetched c whole = whole
with_schema end.LongInput words before after given back same wanted schema fetched c whole = whole

-- a command was carried out over the schema of the text that was fetched
pub obeyed : (e : End) (words : List (List ℕ)) (before after : Seen) (given back : Connected) (same : Type 0) (name text : List ℕ) (wanted : Command) (schema : Schema) (fetched : Seen) → command_of words ≡ Some (wanted, name) → IfSome before.files (λ all. IsSomeAnd (file_named name all) (λ content. text ≡ take (max_length + 1) content))
    → HasSchema text schema → OnlyFetched before fetched → SchemaComes wanted e schema fetched after given back same → Comes e words before after given back same
obeyed e words before after given back same name text wanted schema fetched asked bytes has others c =
    with_schema e words before after given back same wanted schema fetched c (record {
      asked = wanted;
      schema = schema;
      fetched = fetched;
      names = (name, asked, file_holds max_length before.files name text (λ t. HasSchema t schema) (schema_alike schema) has bytes);
      fetch = others;
      comes = c;
    })

-- the text that was fetched gave no schema
pub unread : (e : End) (words : List (List ℕ)) (before after : Seen) (given back : Connected) (same : Type 0) (name text : List ℕ) (wanted : Command) → command_of words ≡ Some (wanted, name) → IfSome before.files (λ all. IsSomeAnd (file_named name all) (λ content. text ≡ take (max_length + 1) content))
    → Unread e text → OnlyFetched before after → same → Comes e words before after given back same
unread end.Done words before after given back same name text wanted asked bytes why others as_was = absurd why
unread end.Usage words before after given back same name text wanted asked bytes why others as_was = absurd why
unread (end.Refused refusal) words before after given back same name text wanted asked bytes why others as_was =
    ((wanted, name, asked, file_holds max_length before.files name text (Refuses refusal) (refusal_alike refusal) why bytes), others, as_was)
unread end.FetchFault words before after given back same name text wanted asked bytes why others as_was = absurd why
unread end.ReadFault words before after given back same name text wanted asked bytes why others as_was = absurd why
unread end.WriteFault words before after given back same name text wanted asked bytes why others as_was = absurd why
unread end.Memory words before after given back same name text wanted asked bytes why others as_was = inl ((wanted, name, asked), others, as_was)
unread (end.ConnectorFault first last) words before after given back same name text wanted asked bytes why others as_was = absurd why
unread end.LayoutDiffers words before after given back same name text wanted asked bytes why others as_was = absurd why
unread end.LongInput words before after given back same name text wanted asked bytes why others as_was = absurd why

-- neither did a call of the host fail
pub unread_ends : (e : End) (text : List ℕ) (before after : Seen) → Unread e text → OnlyFetched before after → after.fetches.count ≡ before.fetches.count → (before.fetches.may_fail ≡ false → after.fetches.may_fail ≡ false) → EndsFor e before after
unread_ends end.Done text before after why others same sure = absurd why
unread_ends end.Usage text before after why others same sure = absurd why
unread_ends (end.Refused refusal) text before after why others same sure = fetch_ends (end.Refused refusal) before after others (counts_same before.fetches.count after.fetches.count (IsFetchFault (end.Refused refusal)) same (λ f. f)) sure (λ f. f) (λ f. f)
unread_ends end.FetchFault text before after why others same sure = absurd why
unread_ends end.ReadFault text before after why others same sure = absurd why
unread_ends end.WriteFault text before after why others same sure = absurd why
unread_ends end.Memory text before after why others same sure = fetch_ends end.Memory before after others (counts_same before.fetches.count after.fetches.count (IsFetchFault end.Memory) same (λ f. f)) sure (λ f. f) (λ f. f)
unread_ends (end.ConnectorFault first last) text before after why others same sure = absurd why
unread_ends end.LayoutDiffers text before after why others same sure = absurd why
unread_ends end.LongInput text before after why others same sure = absurd why
