-- Results one after another, and what holds of accepted ones.
use Rattle.std.proofs.Common.{◌≡◌, Bool, true, false, Result, Ok, Err, IfOk, refl}
use Rattle.std.specs.Prelude.{if◌then◌else◌}
use Rattle.qe_base.specs.declared.answer.Rule.{Rule}
use Rattle.qe_writing.specs.WriteState.{◌>>=◌}

-- one part after another, with what is known of the first
pub bind_ok : {A B : Type 0} (r : Result A Rule) (f : A → Result B Rule) (P : A → Type 0) (Q : B → Type 0) → IfOk r P → ((a : A) → P a → IfOk (f a) Q) → IfOk (r >>= f) Q
bind_ok (Ok a) f P Q h k = k a h
bind_ok (Err e) f P Q h k = tt

pub any_ok : {A B : Type 0} (r : Result A Rule) (f : A → Result B Rule) (Q : B → Type 0) → ((a : A) → IfOk (f a) Q) → IfOk (r >>= f) Q
any_ok (Ok a) f Q k = k a
any_ok (Err broken) f Q k = tt

pub bind_same : {A B : Type 0} (r : Result A Rule) (f g : A → Result B Rule) → ((a : A) → f a ≡ g a) → (r >>= f) ≡ (r >>= g)
bind_same (Ok a) f g same = same a
bind_same (Err broken) f g same = refl

pub ok_weaker : {A : Type 0} (r : Result A Rule) (P Q : A → Type 0) → IfOk r P → ((a : A) → P a → Q a) → IfOk r Q
ok_weaker (Ok a) P Q is weaker = weaker a is
ok_weaker (Err broken) P Q is weaker = tt

pub both_ok : {A : Type 0} (r : Result A Rule) (P Q : A → Type 0) → IfOk r P → IfOk r Q → IfOk r (λ after. P after × Q after)
both_ok (Ok after) P Q first second = (first, second)
both_ok (Err broken) P Q first second = tt

-- what holds wherever a result is accepted
pub if_accepted : {A : Type 0} (result : Result A Rule) (P : A → Type 0) → ((after : A) → result ≡ Ok after → P after) → IfOk result P
if_accepted (Ok after) P each = each after refl
if_accepted (Err broken) P each = tt

by_flag : {A E : Type 0} (flag b : Bool) (a : A) (e : E) (P : A → Type 0) → flag ≡ b → (flag ≡ true → P a) → IfOk {T = A} {E = E} (if b then Ok a else Err e) P
by_flag flag true a e P is holds = holds is
by_flag flag false a e P is holds = tt

-- what is made only where it is right
pub if_ok : {A E : Type 0} (flag : Bool) (a : A) (e : E) (P : A → Type 0) → (flag ≡ true → P a) → IfOk {T = A} {E = E} (if flag then Ok a else Err e) P
if_ok flag a e P = by_flag flag flag a e P refl
