-- Each answer is shorter than a line has room for, and so stands there whole. Assumes nothing.
use Rattle.std.proofs.Common.{◌≡◌, ℕ, zero, suc, ◌+◌, ◌*◌, ◌^◌, ◌<◌, ◌≤◌, List, [], ◌++◌, length, take, ℤ, pos, negsuc, ◌≤ℤ◌, codes, decimal, ap, ◌∙◌, arith, subst, add-one, Some}
use Rattle.std.specs.Fmt.{signed_decimal}
use Rattle.std.proofs.lemmas.List.{length-append, take_all}
use Rattle.std.proofs.lemmas.Fmt.{length-decimal-le}
use Rattle.std.proofs.lemmas.Int.{ints}
use Rattle.std.proofs.lemmas.Bool.Decides.{nat_tests}
use Rattle.refusals.specs.declared.Refusal.{Refusal}
use Rattle.refusals.specs.declared.Refusal.TheVariants.{WrongLength, WrongKind, WrongCount, WrongArea, WrongNumber, WrongField, MovedFirst, Unknown, TableFull, OutOfRange, NoPrice, WrongState, OtherTrader, TooMuchCollateral, NotCovered, AfterWindow, NoSuchSlip, BeyondWord}
use Rattle.refusals.specs.Numbers.{number_of, text_of}
use Rattle.layout.specs.declared.kinds.Kind.{Kind}
use Rattle.layout.specs.declared.kinds.Kind.TheVariants.{Factors, Series, Strikes}
use Rattle.layout.specs.Kinds.{kind_number, name_of}
use Rattle.layout.specs.Fields.{kind, contracts, scenarios}
use Rattle.scenario.specs.Table.{ScenarioTable, Lawful}
use Rattle.lines.specs.Lined.{room, followed}
use Rattle.lines.proofs.Room.{then}
use Rattle.replies.specs.Texts.{refused_text}
use Rattle.answers.specs.Texts.{kind_name, sheet_text, shocks_text, heading_text, placed_text}

-- the text of a refusal
short_refusal : (e : Refusal) → (number_of e < 100) × (length (text_of e) ≤ 100)
short_refusal WrongLength = (omega arith, omega arith)
short_refusal WrongKind = (omega arith, omega arith)
short_refusal WrongCount = (omega arith, omega arith)
short_refusal WrongArea = (omega arith, omega arith)
short_refusal WrongNumber = (omega arith, omega arith)
short_refusal WrongField = (omega arith, omega arith)
short_refusal MovedFirst = (omega arith, omega arith)
short_refusal Unknown = (omega arith, omega arith)
short_refusal TableFull = (omega arith, omega arith)
short_refusal OutOfRange = (omega arith, omega arith)
short_refusal NoPrice = (omega arith, omega arith)
short_refusal WrongState = (omega arith, omega arith)
short_refusal OtherTrader = (omega arith, omega arith)
short_refusal TooMuchCollateral = (omega arith, omega arith)
short_refusal NotCovered = (omega arith, omega arith)
short_refusal AfterWindow = (omega arith, omega arith)
short_refusal NoSuchSlip = (omega arith, omega arith)
short_refusal BeyondWord = (omega arith, omega arith)

length_refused : (e : Refusal) → length (refused_text e) ≤ room
length_refused e =
    let short = short_refusal e in
    omega (arith, length-append {A = ℕ}, length-decimal-le 2 (number_of e) (omega arith) (omega arith) (omega arith))

pub refused_whole : (e : Refusal) (c : List ℕ) → c ≡ followed [] (refused_text e) → c ≡ refused_text e
unfolding followed
refused_whole e c is = is ∙ take_all room (refused_text e) (length_refused e)

-- an accepted sheet
pub named : (k : Kind) (n : ℕ) → kind_number k ≡ n → name_of k ≡ kind_name n
named Factors n e = ap kind_name e
named Series n e = ap kind_name e
named Strikes n e = ap kind_name e

length_kind : (k : ℕ) → length (kind_name k) ≤ 7
length_kind k = grind (arith, nat_tests)

length_sheet : (place : ℕ) (b : List ℕ) → place < 2 ^ 8 → contracts b < 2 ^ 16 → scenarios b < 2 ^ 16 → length (sheet_text place b) ≤ room
length_sheet place b p c s =
    omega (arith, length-append {A = ℕ}, length_kind (kind b), length-decimal-le 3 place (omega arith) (omega arith) (omega arith), length-decimal-le 5 (contracts b) (omega arith) (omega arith) (omega arith), length-decimal-le 5 (scenarios b) (omega arith) (omega arith) (omega arith))

pub sheet_whole : (place n m : ℕ) (b word c : List ℕ) → place < 2 ^ 8 → n < 2 ^ 16 → m < 2 ^ 16 → word ≡ kind_name (kind b) → n ≡ contracts b → m ≡ scenarios b → c ≡ followed [] (codes "sheet " ++ (decimal place ++ (codes " " ++ (word ++ (codes " contracts " ++ (decimal n ++ (codes " scenarios " ++ decimal m))))))) → c ≡ sheet_text place b
unfolding followed
sheet_whole place n m b word c hp hn hm called of_n of_m e =
    e
    ∙ (λ i. followed [] (codes "sheet " ++ (decimal place ++ (codes " " ++ (called i ++ (codes " contracts " ++ (decimal (of_n i) ++ (codes " scenarios " ++ decimal (of_m i)))))))))
    ∙ take_all room (sheet_text place b) (length_sheet place b hp (subst (λ (x : ℕ). x < 2 ^ 16) of_n hn) (subst (λ (x : ℕ). x < 2 ^ 16) of_m hm))

-- a shock has at most ten bytes
length_shock : (z : ℤ) → negsuc 99999999 ≤ℤ z → z ≤ℤ pos 100000000 → length (signed_decimal z) ≤ 10
length_shock (pos n) low high =
    let small : n ≤ 100000000 = omega (arith, ints) in
    omega (arith, length-decimal-le 9 n (omega arith) (omega arith) (omega arith))
length_shock (negsuc n) low high =
    let small : n ≤ 99999999 = omega (arith, ints) in
    omega (arith, length-decimal-le 9 (suc n) (omega arith) (omega arith) (omega arith))

length_shocks : (t : ScenarioTable) (c : ℕ) → Lawful t → (n : ℕ) → length (shocks_text t c n) ≤ 11 * n
unfolding shocks_text
length_shocks t c l zero = omega arith
length_shocks t c l (suc n) =
    omega (arith, length_shocks t c l n, length_shock (t.shock c n) (l.shock_low c n) (l.shock_high c n), length-append (shocks_text t c n) (codes " " ++ signed_decimal (t.shock c n)))

length_heading : (c k m : ℕ) → c < 2 ^ 8 → k < 2 ^ 8 → m < 2 ^ 16 → length (heading_text c k m) ≤ 100
length_heading c k m hc hk hm =
    omega (arith, length-append {A = ℕ}, length-decimal-le 3 c (omega arith) (omega arith) (omega arith), length-decimal-le 3 k (omega arith) (omega arith) (omega arith), length-decimal-le 5 m (omega arith) (omega arith) (omega arith))

-- one shock more
pub shocks_more : (t : ScenarioTable) (c n : ℕ) (a b d : List ℕ) (z : ℤ) → z ≡ t.shock c n → b ≡ followed a (shocks_text t c n) → d ≡ followed b (codes " " ++ signed_decimal z) → d ≡ followed a (shocks_text t c (n + 1))
unfolding shocks_text
shocks_more t c n a b d z is e f =
    rw add-one (then a b d (shocks_text t c n) (codes " " ++ signed_decimal (t.shock c n)) e (f ∙ ap (λ (x : ℤ). followed b (codes " " ++ signed_decimal x)) is))

-- a contract's line
pub placed_whole : (t : ScenarioTable) (c k m s : ℕ) (b d : List ℕ) → Lawful t → c < 2 ^ 8 → k < 2 ^ 8 → m < 2 ^ 16 → s ≡ t.scenarios k → b ≡ followed [] (heading_text c k m) → d ≡ followed b (shocks_text t c s) → d ≡ placed_text t c (Some (k, m))
unfolding followed
placed_whole t c k m s b d l hc hk hm is e f =
    let heading = length_heading c k m hc hk hm in
    let shocks = length_shocks t c l s in
    let few = l.few_scenarios k in
    let both = length-append (heading_text c k m) (shocks_text t c s) in
    f
    ∙ ap (λ (x : List ℕ). take room (x ++ shocks_text t c s)) (e ∙ take_all room (heading_text c k m) (omega arith))
    ∙ take_all room (heading_text c k m ++ shocks_text t c s) (omega arith)
    ∙ ap (λ (x : ℕ). heading_text c k m ++ shocks_text t c x) is
