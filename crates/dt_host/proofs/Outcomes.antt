-- What holds after a step that may fail.
use Rattle.std.specs.Prelude.{IfOk, OnOk, Result, Ok, Err}

pub on_ok : {A E : Type 0} {P Q : Type 0} (r : Result A E) → (P → Q) → OnOk r P → OnOk r Q
on_ok (Ok a) f h = f h
on_ok (Err e) f h = tt

pub on_both : {A E : Type 0} {P Q R : Type 0} (r : Result A E) → (P → Q → R) → OnOk r P → OnOk r Q → OnOk r R
on_both (Ok a) f p q = f p q
on_both (Err e) f p q = tt

pub same_ok : {A E : Type 0} {P Q : A → Type 0} (r : Result A E) → ((a : A) → P a → Q a) → IfOk r P → IfOk r Q
same_ok (Ok a) f h = f a h
same_ok (Err e) f h = tt
