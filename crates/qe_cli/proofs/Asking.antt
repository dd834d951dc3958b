-- Which files a command asks for.
use Rattle.std.proofs.Common.{◌≡◌, ◌⊎◌, inl, inr, ℕ, List, [], ◌∷◌, ◌++◌, Option, Some, None, refl, sym, subst, IfSome, IsSomeAnd}
use Rattle.qe_base.specs.Outside.{AsksFor, Seen}
use Rattle.qe_cli.specs.Asked.{command_of}
use Rattle.qe_cli.specs.Command.{AsksAtMost}
use Rattle.qe_cli.specs.declared.words.Command.{Command}

abbrev AtMost : List (List ℕ) → Option (List (List ℕ)) → Option (List (List ℕ)) → Type 0
AtMost words before after = IfSome after (λ names. IsSomeAnd before (λ earlier. (names ≡ earlier) ⊎ ((command : Command) × (name : List ℕ) × (command_of words ≡ Some (command, name)) × (names ≡ earlier ++ name ∷ []))))

none_asked : (words : List (List ℕ)) (asked : Option (List (List ℕ))) → AtMost words asked asked
none_asked words None = tt
none_asked words (Some names) = inl refl

one_asked : (words : List (List ℕ)) (command : Command) (name : List ℕ) (before after : Option (List (List ℕ))) → command_of words ≡ Some (command, name) → IfSome after (λ names. IsSomeAnd before (λ earlier. names ≡ earlier ++ name ∷ [])) → AtMost words before after
one_asked words command name before None is asks = tt
one_asked words command name None (Some names) is asks = absurd asks
one_asked words command name (Some earlier) (Some names) is asks = inr (command, name, is, asks)

-- no file was asked for
pub asks_none : (words : List (List ℕ)) (before : Seen) → AsksAtMost words before before
asks_none words before = none_asked words before.asked

-- that of the words was
pub asks_name : (words : List (List ℕ)) (command : Command) (name : List ℕ) (before after : Seen) → command_of words ≡ Some (command, name) → AsksFor name before after → AsksAtMost words before after
asks_name words command name before after is asks = one_asked words command name before.asked after.asked is asks

-- and then no more
pub asks_still : (words : List (List ℕ)) (before mid after : Seen) → after.asked ≡ mid.asked → AsksAtMost words before mid → AsksAtMost words before after
asks_still words before mid after same asks = subst (AtMost words before.asked) (sym same) asks
