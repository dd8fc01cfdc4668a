-- Numbers are read as they are written.
use Rattle.std.proofs.Common.{◌≡◌, ℕ, zero, suc, ◌+◌, ◌*◌, ◌-◌, ◌/◌, ◌%◌, ◌<◌, ◌≤◌, ◌^◌, ◌==◌, ◌&&◌, ℤ, pos, negsuc, Bool, true, false, cond, List, [], ◌∷◌, ◌++◌, length, length-append, refl, sym, ap, subst, ◌∙◌, arith, Some, None, nat_lt, decimal, codes, w64, SFits}
use Rattle.std.specs.Fmt.{signed_decimal}
use Rattle.std.specs.Char.{is_ascii_digit}
use Rattle.std.specs.Str.{all_ascii_digits}
use Rattle.std.proofs.lemmas.Bool.{ne_eqb, true≢false, lt-ltb, ltb-true, ltb-false}
use Rattle.std.proofs.lemmas.Fmt.{AppendsLastDigit, decimal_from_appends, length-decimal-le_succ}
use Rattle.json.specs.Json.{no_members, member}
use Rattle.json.specs.Token.{Token}
use Rattle.otel_otlp.specs.Arrays.{members_front}
use Rattle.otel_otlp.specs.Numbers.{digits_within, digits, signed_digits, quoted, whole, value_member}
use Rattle.otel_otlp.specs.Reading.{is_natural, is_integer, number_after, negated, integer_of, natural_text, integer_text}

-- ======== as the program writes them ========
last_digit : (count n : ℕ) → n < 10 → digits_within (suc count) n ≡ (48 + n) ∷ []
last_digit count n h = ap (λ b. cond b ((48 + n) ∷ []) (digits_within count (n / 10) ++ (48 + n % 10) ∷ [])) (lt-ltb n 10 h)

more_digits : (count n : ℕ) → 10 ≤ n → digits_within (suc count) n ≡ digits_within count (n / 10) ++ (48 + n % 10) ∷ []
more_digits count n h = grind arith

appends : AppendsLastDigit digits_within
appends = record { one = last_digit; more = more_digits }

pub decimal-digits : (n : ℕ) → n < 2 ^ 64 → decimal n ≡ digits n
unfolding digits
decimal-digits n h = sym (decimal_from_appends digits_within appends (suc n) n h (omega (arith, length-decimal-le_succ n h)))

pub signed_decimal-digits : (z : ℤ) → SFits w64 z → signed_decimal z ≡ signed_digits z
signed_decimal-digits (pos n) h = decimal-digits n (omega (arith, h.sfits))
signed_decimal-digits (negsuc n) h = ap (λ ds. 45 ∷ ds) (decimal-digits (suc n) (omega (arith, h.sfits)))

-- a signed number of 64 bits is an integer
pub signed_value : (z : ℤ) → SFits w64 z → members_front (value_member z no_members) ≡ Token.key (codes "asInt") ∷ Token.string (signed_digits z) ∷ []
signed_value (pos n) h =
    ap (λ b. members_front (cond b (member (codes "asInt") (quoted n) no_members) (member (codes "asDouble") (whole (pos n)) no_members))) (lt-ltb n (2 ^ 63) (omega (arith, h.sfits)))
signed_value (negsuc n) h = refl

-- ======== as a reader reads them ========
passed : {A : Type 0} (t : Bool) (x y : A) → t ≡ false → cond t x y ≡ y
passed t x y e = ap (λ b. cond b x y) e

both : (a b : Bool) → (a && b) ≡ true → (a ≡ true) × (b ≡ true)
both true b e = (refl, e)
both false b e = absurd (true≢false (sym e))

-- a byte that passes a test is none that doesn't
differs : (test : ℕ → Bool) (b k : ℕ) → test b ≡ true → test k ≡ false → (b == k) ≡ false
differs test b k h e = ne_eqb b k (λ same. true≢false (sym h ∙ (ap test same ∙ e)))

is_digit : (d : ℕ) → d < 10 → is_ascii_digit (48 + d) ≡ true
is_digit d h = grind arith

-- one digit more
all_digits-push : (ds : List ℕ) (c : ℕ) → all_ascii_digits ds ≡ true → is_ascii_digit c ≡ true → all_ascii_digits (ds ++ c ∷ []) ≡ true
all_digits-push [] c h e = ap (λ b. b && true) e
all_digits-push (d ∷ ds) c h e =
    let parts = both (is_ascii_digit d) (all_ascii_digits ds) h in
    λ i. parts.0 i && all_digits-push ds c parts.1 e i

number_after-push : (n : ℕ) (ds : List ℕ) (c : ℕ) → number_after n (ds ++ c ∷ []) ≡ 10 * number_after n ds + (c - 48)
number_after-push n [] c = refl
number_after-push n (d ∷ ds) c = number_after-push (10 * n + (d - 48)) ds c

-- the digits of a number, and nothing else
record Writes (ds : List ℕ) (n : ℕ) : Type 0 where
  all_digits : all_ascii_digits ds ≡ true
  some : 0 < length ds
  value : number_after 0 ds ≡ n

only_digit : (count n : ℕ) → n < 10 → Writes (digits_within (suc count) n) n
only_digit count n l =
    subst (λ ds. Writes ds n) (sym (last_digit count n l))
    (record { all_digits = ap (λ b. b && true) (is_digit n l); some = omega arith; value = omega arith })

digit_more : (count n : ℕ) → 10 ≤ n → Writes (digits_within count (n / 10)) (n / 10) → Writes (digits_within (suc count) n) n
digit_more count n l w =
    subst (λ ds. Writes ds n) (sym (more_digits count n l)) (record {
      all_digits = all_digits-push (digits_within count (n / 10)) (48 + n % 10) w.all_digits (is_digit (n % 10) (omega arith));
      some = omega (arith, length-append (digits_within count (n / 10)) ((48 + n % 10) ∷ []));
      value = omega (arith, number_after-push 0 (digits_within count (n / 10)) (48 + n % 10), w.value);
    })

by_size : (count n : ℕ) (small : Bool) → nat_lt n 10 ≡ small → (10 ≤ n → Writes (digits_within count (n / 10)) (n / 10)) → Writes (digits_within (suc count) n) n
by_size count n true e front = only_digit count n (ltb-true n 10 e)
by_size count n false e front = digit_more count n (ltb-false n 10 e) (front (ltb-false n 10 e))

written_within : (count n : ℕ) → n < count → Writes (digits_within count n) n
written_within zero n h = absurd (omega arith)
written_within (suc count) n h = by_size count n (nat_lt n 10) refl (λ l. written_within count (n / 10) (omega arith))

written : (n : ℕ) → Writes (digits n) n
unfolding digits
written n = written_within (suc n) n (omega arith)

are_natural : (ds : List ℕ) (n : ℕ) → Writes ds n → is_natural ds ≡ true
are_natural [] n w = absurd (omega (arith, w.some))
are_natural (b ∷ bs) n w = w.all_digits

pub natural_reads : (n : ℕ) → natural_text (digits n) ≡ Some n
natural_reads n = λ i. cond (are_natural (digits n) n (written n) i) (Some ((written n).value i)) None

-- digits have no sign
unsigned : (ds : List ℕ) (n : ℕ) → Writes ds n → integer_text ds ≡ Some (pos n)
unsigned [] n w = absurd (omega (arith, w.some))
unsigned (b ∷ bs) n w = λ i. cond (is i) (Some (value i)) None
  where
    no_sign : (b == 45) ≡ false
    no_sign = differs is_ascii_digit b 45 (both (is_ascii_digit b) (all_ascii_digits bs) w.all_digits).0 refl

    is : is_integer (b ∷ bs) ≡ true
    is = passed (b == 45) _ _ no_sign ∙ w.all_digits

    value : integer_of (b ∷ bs) ≡ pos n
    value = passed (b == 45) _ _ no_sign ∙ ap pos w.value

pub integer_reads : (z : ℤ) → integer_text (signed_digits z) ≡ Some z
integer_reads (pos n) = unsigned (digits n) n (written n)
integer_reads (negsuc n) = λ i. cond (are_natural (digits (suc n)) (suc n) (written (suc n)) i) (Some (negated ((written (suc n)).value i))) None
