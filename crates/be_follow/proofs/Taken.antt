-- What a follower is after one more piece.
use Rattle.std.proofs.Common.{◌≡◌, ℕ, ◌+◌, ◌-◌, ◌<◌, ◌≤◌, Bool, true, false, cond, List, [], ◌∷◌, ◌++◌, length, take, drop, min, nat_lt, Option, Some, None, is_some, IfSome, refl, sym, ap, ◌∙◌, subst, arith, append_assoc}
use Rattle.std.proofs.Math.Seq.{take-append-add, take-add}
use Rattle.std.proofs.lemmas.Bool.Decides.{nat_tests}
use Rattle.std.proofs.lemmas.List.{append-nil, take-append-le, take_min, take_all, take_rest, length-take-le}
use Rattle.be_base.specs.declared.limits.TheConstants.{FEED_LINE_BYTES}
use Rattle.be_base.specs.Tokens.{tokens}
use Rattle.be_io.specs.Lines.{has_lf, closed_lines, open_line}
use Rattle.be_io.specs.Reading.{IsFirstLf}
use Rattle.be_model.specs.Schemas.{Attributes}
use Rattle.be_change.specs.History.{Entry}
use Rattle.be_follow.specs.declared.faults.FeedKind.{FeedKind}
use Rattle.be_follow.specs.Feeds.{PlainSaid, faulty, said, said_of, Fed, none_fed, TakesLineAt, TakesLine, TakesLines, Means, Judges}
use Rattle.be_follow.specs.Followers.{FollowerState, IntakeState, kept_bytes, Follows}
use Rattle.be_follow.proofs.LinesOn.{closed_lines-on, part_closes, part_opens, lf_closes, lf_opens}

-- lines, and then more of them
pub lines_then : (s : Attributes) (ls more : List (List ℕ)) (f m g : Fed) → TakesLines s f ls m → TakesLines s m more g → TakesLines s f (ls ++ more) g
lines_then s [] more f m g t u = subst (λ (x : Fed). TakesLines s x more g) t u
lines_then s (l ∷ ls) more f m g t u = (t.0, t.1, lines_then s ls more t.0 m g t.2 u)

-- behind a faulty line none is read
pub none_behind : (s : Attributes) (ls : List (List ℕ)) (f : Fed) (kind : FeedKind) → f.fault ≡ Some kind → TakesLines s f ls f
none_behind s [] f kind bad = refl
none_behind s (l ∷ ls) f kind bad = (f, subst (λ (o : Option FeedKind). TakesLineAt o s f l f) (sym bad) refl, none_behind s ls f kind bad)

pub follows_bad : (bytes more : List ℕ) (f : FollowerState) (kind : FeedKind) → f.fed.fault ≡ Some kind → Follows bytes f → Follows (bytes ++ more) f
follows_bad bytes more f kind bad follows = record {
  means = subst (λ (ls : List (List ℕ)). TakesLines f.schema none_fed ls f.fed) (sym (closed_lines-on bytes more))
      (lines_then f.schema (closed_lines bytes) (closed_lines (open_line bytes ++ more)) none_fed f.fed f.fed follows.means (none_behind f.schema (closed_lines (open_line bytes ++ more)) f.fed kind bad));
  rest = λ none. let e : None ≡ Some kind = sym none ∙ bad in absurd cc;
}

pub follows_ignored : (bytes more : List ℕ) (f : FollowerState) → is_some f.fed.fault ≡ true → Follows bytes f → Follows (bytes ++ more) f
follows_ignored bytes more f bad follows = by_fault f.fed.fault refl bad
  where
    by_fault : (o : Option FeedKind) → f.fed.fault ≡ o → is_some o ≡ true → Follows (bytes ++ more) f
    by_fault None is some = absurd cc
    by_fault (Some kind) is some = follows_bad bytes more f kind is follows

-- what is kept of a line, and of more of it
kept_more : (k : ℕ) (o c : List ℕ) → take k o ++ take (min (length c) (k - length (take k o))) c ≡ take k (o ++ c)
kept_more k o c = by_length (nat_lt (length o) k) refl
  where
    by_length : (b : Bool) → nat_lt (length o) k ≡ b → take k o ++ take (min (length c) (k - length (take k o))) c ≡ take k (o ++ c)
    by_length true low =
        let less : length o < k = grind (arith, nat_tests) in
        let all : take k o ≡ o = take_all k o (omega (arith, less)) in
        let most : min (length c) (k - length o) ≡ min (k - length o) (length c) = omega arith in
        let room : length o + (k - length o) ≡ k = omega (arith, less) in
        rw all (ap (λ (n : ℕ). o ++ take n c) most ∙ ap (λ (x : List ℕ). o ++ x) (take_min (k - length o) c) ∙ sym (take-append-add o c (k - length o)) ∙ ap (λ (n : ℕ). take n (o ++ c)) room)
    by_length false high =
        let more : k ≤ length o = grind (arith, nat_tests) in
        let len : length (take k o) ≡ k = length-take-le k o more in
        let none : min (length c) (k - length (take k o)) ≡ 0 = omega (arith, len) in
        ap (λ (n : ℕ). take k o ++ take n c) none ∙ append-nil (take k o) ∙ sym (take-append-le k o c more)

-- bytes without an LF came behind the line
pub follows_part : (bytes part : List ℕ) (f : FollowerState) (rest : List ℕ) → has_lf part ≡ false → f.fed.fault ≡ None
    → rest ≡ f.rest ++ take (min (length part) (kept_bytes - length f.rest)) part → Follows bytes f → Follows (bytes ++ part) (record { schema = f.schema; fed = f.fed; rest = rest })
follows_part bytes part f rest clean sound put follows = record {
  means = subst (λ (ls : List (List ℕ)). TakesLines f.schema none_fed ls f.fed) (sym (part_closes bytes part clean)) follows.means;
  rest = λ none.
      put
      ∙ ap (λ (x : List ℕ). x ++ take (min (length part) (kept_bytes - length x)) part) (follows.rest sound)
      ∙ kept_more kept_bytes (open_line bytes) part
      ∙ ap (take kept_bytes) (sym (part_opens bytes part clean));
}

-- what is kept of a line says what the line says
pub kept_says : (s : Attributes) (line : List ℕ) → said s (take kept_bytes line) ≡ said s line
kept_says s line = by_length (nat_lt FEED_LINE_BYTES (length line)) refl
  where
    by_length : (b : Bool) → nat_lt FEED_LINE_BYTES (length line) ≡ b → said s (take kept_bytes line) ≡ said s line
    by_length true long =
        let over : 262144 < length line = grind (arith, nat_tests) in
        let len : length (take 262145 line) ≡ 262145 = length-take-le 262145 line (omega (arith, over)) in
        let long_too : nat_lt FEED_LINE_BYTES (length (take kept_bytes line)) ≡ true = grind (arith, nat_tests) in
        ap (λ (b : Bool). cond b faulty (said_of s (tokens (take kept_bytes line)))) long_too ∙ sym (ap (λ (b : Bool). cond b faulty (said_of s (tokens line))) long)
    by_length false short =
        let within : length line ≤ 262144 = grind (arith, nat_tests) in
        ap (said s) (take_all kept_bytes line (omega (arith, within)))

-- an LF came, which ended the line
pub follows_lf : (bytes : List ℕ) (f g : FollowerState) → f.fed.fault ≡ None → g.schema ≡ f.schema → TakesLine f.schema f.fed f.rest g.fed → g.rest ≡ [] → Follows bytes f → Follows (bytes ++ 10 ∷ []) g
follows_lf bytes f g sound same took empty follows = record {
  means = subst (λ (s : Attributes). Means s (bytes ++ 10 ∷ []) g.fed) (sym same)
      (subst (λ (ls : List (List ℕ)). TakesLines f.schema none_fed ls g.fed) (sym (lf_closes bytes))
      (lines_then f.schema (closed_lines bytes) (open_line bytes ∷ []) none_fed f.fed g.fed follows.means (g.fed, line, refl)));
  rest = λ none. empty ∙ ap (take kept_bytes) (sym (lf_opens bytes));
}
  where
    judged_whole : TakesLineAt None f.schema f.fed f.rest g.fed → TakesLineAt None f.schema f.fed (open_line bytes) g.fed
    judged_whole t = (t.0, subst (λ (x : PlainSaid). Judges f.fed.list x t.0) (ap (said f.schema) (follows.rest sound) ∙ kept_says f.schema (open_line bytes)) t.1, t.2)

    line : TakesLine f.schema f.fed (open_line bytes) g.fed
    line =
        subst (λ (o : Option FeedKind). TakesLineAt o f.schema f.fed (open_line bytes) g.fed) (sym sound)
        (judged_whole (subst (λ (o : Option FeedKind). TakesLineAt o f.schema f.fed f.rest g.fed) sound took))

-- the bytes before the first LF of a piece, and the LF
pub to_first_lf : (piece : List ℕ) (place : ℕ) → IsFirstLf piece place → take (place + 1) piece ≡ take place piece ++ 10 ∷ []
to_first_lf piece place first =
    let front : length (take place piece) ≡ place = length-take-le place piece (omega (arith, first.0)) in
    ap (take (place + 1)) first.1.1
    ∙ ap (λ (n : ℕ). take (n + 1) (take place piece ++ 10 ∷ drop (place + 1) piece)) (sym front)
    ∙ take-append-add (take place piece) (10 ∷ drop (place + 1) piece) 1

-- what was taken of a piece, and of what is left of it
pub taken_then : (bytes piece : List ℕ) (taken count : ℕ) → (bytes ++ take taken piece) ++ take count (take (length piece - taken) (drop taken piece)) ≡ bytes ++ take (taken + count) piece
taken_then bytes piece taken count =
    append_assoc bytes (take taken piece) (take count (take (length piece - taken) (drop taken piece)))
    ∙ ap (λ (x : List ℕ). bytes ++ (take taken piece ++ take count x)) (take_rest piece taken)
    ∙ ap (λ (x : List ℕ). bytes ++ x) (sym (take-add taken count piece))

-- behind a faulty line nothing changed, from piece to piece
pub stays_on : (a b c : IntakeState) (g h k : List Entry) → IfSome a.fault (λ kind. (b ≡ a) × (h ≡ g)) → IfSome b.fault (λ kind. (c ≡ b) × (k ≡ h)) → IfSome a.fault (λ kind. (c ≡ a) × (k ≡ g))
stays_on a b c g h k p q = by_fault a.fault refl p
  where
    by_fault : (o : Option FeedKind) → a.fault ≡ o → IfSome o (λ kind. (b ≡ a) × (h ≡ g)) → IfSome o (λ kind. (c ≡ a) × (k ≡ g))
    by_fault None is p = tt
    by_fault (Some kind) is p =
        let later = subst (λ (o : Option FeedKind). IfSome o (λ kind. (c ≡ b) × (k ≡ h))) (ap (λ (x : IntakeState). x.fault) p.0 ∙ is) q in
        (later.0 ∙ p.0, later.1 ∙ p.1)
