-- What holds of a result whatever a tend adds, and however many were counted, holds for each two numbers.
use Rattle.std.proofs.Common.{ℕ, Result, Ok, Err}
use Rattle.std.specs.Prelude.{IfOk, IfErr, OnErr}

pub ok_at : {X E : Type 0} (P : ℕ → ℕ → X → Type 0) (r : Result X E) (m n : ℕ) → IfOk r (λ x. (k l : ℕ) → P k l x) → IfOk r (P m n)
ok_at P (Ok x) m n all = all m n
ok_at P (Err e) m n all = all

pub err_at : {X E : Type 0} (P : ℕ → ℕ → E → Type 0) (r : Result X E) (m n : ℕ) → IfErr r (λ e. (k l : ℕ) → P k l e) → IfErr r (P m n)
err_at P (Ok x) m n all = all
err_at P (Err e) m n all = all m n

pub on_err_at : {X E : Type 0} (P : ℕ → ℕ → Type 0) (r : Result X E) (m n : ℕ) → OnErr r ((k l : ℕ) → P k l) → OnErr r (P m n)
on_err_at P (Ok x) m n all = all
on_err_at P (Err e) m n all = all m n
