-- At most one thing is due where files are told.
use Rattle.std.proofs.Common.{◌≡◌, ◌⊎◌, inl, inr, Bool, true, false, ◌<◌, ℕ, List, Option, Some, None, map, length, sym, ◌∙◌, ap, subst, arith, refl, ◌≤◌}
use Rattle.std.specs.Prelude.{IsSomeAnd}
use Rattle.conley_outside.specs.Depot.{Lacks}
use Rattle.conley_field.specs.Arithmetic.{IsField}
use Rattle.conley_field.specs.Prime.{residues}
use Rattle.conley_field.specs.ResidueLaws.{residues-IsField}
use Rattle.conley_lefschetz.specs.Complex.{IsLayout}
use Rattle.conley_lefschetz.specs.Conley.{AreConleyNumbers}
use Rattle.conley_lefschetz.proofs.ConleyLemmas.{numbers_are_one}
use Rattle.conley_texts.specs.Line.{text_of}
use Rattle.conley_texts.specs.Words.{labels_of}
use Rattle.conley_transitions.specs.Morse.{set_at}
use Rattle.conley_transitions.proofs.ClassLemmas.{classes_once}
use Rattle.conley_graph.specs.Covers.{AreCovers}
use Rattle.conley_graph.specs.Decomposition.{flow_of, HasTooManySets}
use Rattle.conley_graph.proofs.OnceLemmas.{finest_once, covers_once, numbers_once}
use Rattle.conley_input.specs.Problem.{Problem, Reads, IsSound}
use Rattle.conley_input.proofs.OnceLemmas.{refused_once, not_refused_and_read, read_once, read_prime, read_sound}
use Rattle.conley_certificate_file.specs.Certificate.{Certificate}
use Rattle.conley_certificate_file.proofs.OnceLemmas as certificates
use Rattle.conley_certificate.specs.Problem as certificate
use Rattle.conley_certificate.specs.Analysis.{IsAnalysis}
use Rattle.conley_trial.specs.Trial.{IsTrialProblem}
use Rattle.conley_trial.proofs.OnceLemmas.{problem_once}
use Rattle.conley_tool.specs.Due.{Due, ends, prints}
use Rattle.conley_tool.specs.Words.{Command, reads_file}
use Rattle.conley_tool.specs.Fetches.{Holds, IsLonger, AfterFetch, AfterProblem, file_limit}
use Rattle.conley_tool.specs.Classes.{ClassesAreDue}
use Rattle.conley_tool.specs.Field.{FieldIsDue}
use Rattle.conley_tool.proofs.PartLineLemmas.{field_lines_once}
use Rattle.conley_tool.specs.Morse.{MorseGraph, IsMorseGraphOf, morse_lines, RefusesSets, MorseIsDue}
use Rattle.conley_tool.specs.Sets.{SetsAreDue}
use Rattle.conley_tool.proofs.SetLineLemmas.{set_lines_once}
use Rattle.conley_tool.specs.Analyze.{in_full, AnalysisIsDue}
use Rattle.conley_tool.specs.Check.{certificate_limit, VerdictIsDue, AfterCertificate, CheckIsDue}
use Rattle.conley_tool.specs.Trial.{IsMade, OnMade, SummaryIsDue}
use Rattle.conley_tool.specs.Alike.{AreAlike}
use Rattle.conley_tool.specs.Headline.{IsDueOn, OnArgument, IsDue, Analyzes}
use Rattle.conley_tool.specs.declared.words.Verb.{Verb}
use Rattle.conley_tool.specs.declared.words.Verb.TheVariants.{Classes, Field, Morse, Sets, Analyze, Check, Trial}
use Rattle.conley_tool.specs.declared.outcome.Fault.TheVariants as fault
use Rattle.conley_tool.specs.declared.outcome.Outcome.TheVariants.{Refused, Rejected}

-- ---- steps: over any next step of which the things that are due are alike, by any relation that equal things have

-- any two things of which a sentence holds are alike
abbrev IsOnceBy : (Due → Due → Type 0) → (Due → Type 0) → Type 0
IsOnceBy Alike Is = (a b : Due) → Is a → Is b → Alike a b

-- at most one thing satisfies a sentence
abbrev IsOnce : (Due → Type 0) → Type 0
IsOnce Is = IsOnceBy (λ a b. a ≡ b) Is

-- a told file has one list of bytes
held_once : (file_of : List ℕ → Option (List ℕ)) (name : List ℕ) (limit : ℕ) (a b : List ℕ) → Holds (Some file_of) name limit a
    → Holds (Some file_of) name limit b → a ≡ b
held_once file_of name limit a b r s = let e : Some a ≡ Some b = sym r.told ∙ s.told in cc

-- the three ends of a fetch exclude each other
held_not_lacking : (file_of : List ℕ → Option (List ℕ)) (name : List ℕ) (limit : ℕ) (bytes : List ℕ) → Holds (Some file_of) name limit bytes
    → Lacks (Some file_of) name → ⊥
held_not_lacking file_of name limit bytes r s = let e : Some bytes ≡ None = sym r.told ∙ s in cc

held_not_longer : (file_of : List ℕ → Option (List ℕ)) (name : List ℕ) (limit : ℕ) (bytes : List ℕ)
    → Holds (Some file_of) name limit bytes → IsLonger (Some file_of) name limit → ⊥
held_not_longer file_of name limit bytes r s = let long = subst (λ (held : Option (List ℕ)). IsSomeAnd held (λ bytes. limit < length bytes)) r.told s in
    omega (arith, long, r.within)

lacking_not_longer : (file_of : List ℕ → Option (List ℕ)) (name : List ℕ) (limit : ℕ) → Lacks (Some file_of) name → IsLonger (Some file_of) name limit → ⊥
lacking_not_longer file_of name limit s t = subst (λ (held : Option (List ℕ)). IsSomeAnd held (λ bytes. limit < length bytes)) s t

module _ (Alike : Due → Due → Type 0) (same : (a b : Due) → a ≡ b → Alike a b) where
  pub after_fetch_once : (file_of : List ℕ → Option (List ℕ)) (name : List ℕ) (limit : ℕ) (Next : List ℕ → Due → Type 0)
      → ((bytes : List ℕ) → IsOnceBy Alike (Next bytes)) →
      IsOnceBy Alike (AfterFetch (Some file_of) name limit Next)
  after_fetch_once file_of name limit Next once a b (inl r) (inl s) =
      once r.0 a b r.2 (subst (λ (bytes : List ℕ). Next bytes b) (sym (held_once file_of name limit r.0 s.0 r.1 s.1)) s.2)
  after_fetch_once file_of name limit Next once a b (inl r) (inr (inl s)) = absurd (held_not_lacking file_of name limit r.0 r.1 s.0)
  after_fetch_once file_of name limit Next once a b (inl r) (inr (inr s)) = absurd (held_not_longer file_of name limit r.0 r.1 s.0)
  after_fetch_once file_of name limit Next once a b (inr (inl r)) (inl s) = absurd (held_not_lacking file_of name limit s.0 s.1 r.0)
  after_fetch_once file_of name limit Next once a b (inr (inl r)) (inr (inl s)) = same a b (r.1 ∙ sym s.1)
  after_fetch_once file_of name limit Next once a b (inr (inl r)) (inr (inr s)) = absurd (lacking_not_longer file_of name limit r.0 s.0)
  after_fetch_once file_of name limit Next once a b (inr (inr r)) (inl s) = absurd (held_not_longer file_of name limit s.0 s.1 r.0)
  after_fetch_once file_of name limit Next once a b (inr (inr r)) (inr (inl s)) = absurd (lacking_not_longer file_of name limit s.0 r.0)
  after_fetch_once file_of name limit Next once a b (inr (inr r)) (inr (inr s)) = same a b (r.1 ∙ sym s.1)

  pub after_problem_once : (bytes : List ℕ) (Next : Problem → Due → Type 0) → ((p : Problem) → Reads bytes p → IsOnceBy Alike (Next p))
      → IsOnceBy Alike (AfterProblem bytes Next)
  after_problem_once bytes Next once a b (inl r) (inl s) = same a b (r.2 ∙ ap (λ f. ends (Refused (fault.File f))) (refused_once bytes r.0 s.0 r.1 s.1)
      ∙ sym s.2)
  after_problem_once bytes Next once a b (inl r) (inr s) = absurd (not_refused_and_read bytes r.0 s.0 r.1 s.1)
  after_problem_once bytes Next once a b (inr r) (inl s) = absurd (not_refused_and_read bytes s.0 r.0 s.1 r.1)
  after_problem_once bytes Next once a b (inr r) (inr s) =
      let is = subst (λ (p : Problem). Next p b) (sym (read_once bytes r.0 s.0 r.1 s.1)) s.2 in
      once r.0 r.1 a b r.2 is

-- ---- the problem that is made for a number

-- a word says at most one number
made_once : (word : List ℕ) (p q : Problem) → IsMade word p → IsMade word q → p ≡ q
made_once word p q r s =
    let e : Some r.0 ≡ Some s.0 = sym r.1 ∙ s.1 in
    let same : r.0 ≡ s.0 = cc in
    problem_once s.0 p q r.3 s.3 (subst (λ (k : ℕ). IsTrialProblem k p) same r.2) s.2

made_prime : (word : List ℕ) (p : Problem) → IsMade word p → IsField (residues p.order)
made_prime word p made = let is = made.2 in subst (λ (order : ℕ). IsField (residues order)) (sym is.scalars) (residues-IsField 2 refl)

module _ (Alike : Due → Due → Type 0) (same : (a b : Due) → a ≡ b → Alike a b) where
  on_made_once : (word : List ℕ) (Next : Problem → Due → Type 0) → ((p : Problem) → IsMade word p → IsOnceBy Alike (Next p)) → IsOnceBy Alike (OnMade word Next)
  on_made_once word Next once a b r s = once r.0 r.1 a b r.2 (subst (λ (p : Problem). Next p b) (sym (made_once word r.0 s.0 r.1 s.1)) s.2)

  -- where things that are due of one problem are alike, so are those of the problem that an argument names
  on_argument_once : (file_of : List ℕ → Option (List ℕ)) (word : List ℕ) (Next : Problem → Due → Type 0)
      → ((p : Problem) → IsField (residues p.order) → IsSound p → IsOnceBy Alike (Next p)) →
      (reads : Bool) → IsOnceBy Alike (OnArgument reads (Some file_of) word Next)
  on_argument_once file_of word Next once true a b r s =
      after_fetch_once Alike same file_of word file_limit (λ bytes. AfterProblem bytes Next)
      (λ bytes. after_problem_once Alike same bytes Next (λ p reads. once p (read_prime bytes p reads) (read_sound bytes p reads))) a b r s
  on_argument_once file_of word Next once false a b r s = on_made_once word Next (λ p made. once p (made_prime word p made) made.3) a b r s

-- ---- commands

classes_once_due : (p : Problem) → IsOnce (ClassesAreDue p)
classes_once_due p a b r s =
    let e : r.1.0 ≡ s.1.0 = classes_once p.complex.faces p.part_of r.1.0 s.1.0 r.1.1 s.1.1 in
    r.2 ∙ ap prints (r.1.2 ∙ ap (λ classes. text_of (map (labels_of p.complex.labels) classes)) e ∙ sym s.1.2) ∙ sym s.2

-- the lines of two graphs agree
graph_lines_once : (p : Problem) → IsField (residues p.order) → (g h : MorseGraph) → IsMorseGraphOf p g → IsMorseGraphOf p h
    → morse_lines p.complex.labels g ≡ morse_lines p.complex.labels h
graph_lines_once p laws g h is_g is_h =
    let F = residues p.order in
    let sets : g.sets ≡ h.sets = finest_once p.complex p.part_of g.sets h.sets is_g.sets is_h.sets in
    let conley = subst (λ (ss : List (List ℕ)). (i : ℕ) → i < length ss → AreConleyNumbers F p.complex (set_at ss i) (set_at h.numbers i)) (sym sets)
    is_h.numbers in
    let numbers : g.numbers ≡ h.numbers = numbers_once p.complex g.sets g.numbers h.numbers (numbers_are_one laws p.complex) is_g.numbers_count
    (is_h.numbers_count ∙ ap length (sym sets)) is_g.numbers conley in
    let covers = subst (λ (ss : List (List ℕ)). AreCovers (flow_of F p.complex p.part_of) ss h.order) (sym sets) is_h.order in
    let order : g.order ≡ h.order = covers_once (flow_of F p.complex p.part_of) g.sets g.order h.order is_g.order covers in
    let lines = λ (ss ns : List (List ℕ)) (os : List (ℕ × ℕ)). morse_lines p.complex.labels (record { sets = ss; numbers = ns; order = os }) in
    ap (λ ss. lines ss g.numbers g.order) sets ∙ ap (λ ns. lines h.sets ns g.order) numbers ∙ ap (λ os. lines h.sets h.numbers os) order

field_once_due : (p : Problem) → IsOnce (FieldIsDue p)
field_once_due p a b r s = r.2 ∙ ap (λ lines. prints (text_of lines)) (field_lines_once p r.0 s.0 r.1 s.1) ∙ sym s.2

-- more sets than are printed
many_once : (p : Problem) (a b : Due) → RefusesSets p a → RefusesSets p b → a ≡ b
many_once p a b r s =
    let e = ap length (finest_once p.complex p.part_of r.1.1.0 s.1.1.0 r.1.1.1 s.1.1.1) in
    r.2 ∙ ap (λ n. ends (Refused (fault.Morse n))) (sym r.1.1.2 ∙ e ∙ s.1.1.2) ∙ sym s.2

morse_once_due : (p : Problem) → IsField (residues p.order) → IsOnce (MorseIsDue p)
morse_once_due p laws a b (inl r) (inl s) = many_once p a b r s
morse_once_due p laws a b (inl r) (inr s) = let e = ap length (finest_once p.complex p.part_of r.1.1.0 s.0.sets r.1.1.1 s.1.sets) in
    absurd (omega (arith, e, r.1.0, r.1.1.2, s.2))
morse_once_due p laws a b (inr r) (inl s) = let e = ap length (finest_once p.complex p.part_of s.1.1.0 r.0.sets s.1.1.1 r.1.sets) in
    absurd (omega (arith, e, s.1.0, s.1.1.2, r.2))
morse_once_due p laws a b (inr r) (inr s) = r.3 ∙ ap (λ lines. prints (text_of lines)) (graph_lines_once p laws r.0 s.0 r.1 s.1) ∙ sym s.3

sets_once_due : (p : Problem) → IsField (residues p.order) → IsOnce (SetsAreDue p)
sets_once_due p laws a b r s = r.2 ∙ ap (λ lines. prints (text_of lines)) (set_lines_once p laws p.sets r.0 s.0 r.1 s.1) ∙ sym s.2

verdict_once : (P : certificate.Problem) (C : Certificate) → IsOnce (VerdictIsDue P C)
verdict_once P C a b (inl r) (inl s) = r.1 ∙ sym s.1
verdict_once P C a b (inl r) (inr s) = absurd (s.0 r.0)
verdict_once P C a b (inr r) (inl s) = absurd (r.0 s.0)
verdict_once P C a b (inr r) (inr s) =
    let e : Some r.1.0 ≡ Some s.1.0 = sym r.1.1 ∙ s.1.1 in
    let same : r.1.0 ≡ s.1.0 = cc in
    r.1.2 ∙ ap (λ reason. ends (Rejected reason)) same ∙ sym s.1.2

check_once_due : (file_of : List ℕ → Option (List ℕ)) (name : List ℕ) (p : Problem) → IsLayout (residues p.order) p.complex
    → IsOnce (CheckIsDue (Some file_of) name p)
check_once_due file_of name p laws =
    after_fetch_once (λ a b. a ≡ b) (λ a b e. e) file_of name certificate_limit (λ bytes. AfterCertificate (residues p.order) p.complex bytes
    (VerdictIsDue (in_full p))) (λ bytes. certificate_once bytes)
  where
    certificate_once : (bytes : List ℕ) → IsOnce (AfterCertificate (residues p.order) p.complex bytes (VerdictIsDue (in_full p)))
    certificate_once bytes a b (inl r) (inl s) = r.2 ∙ ap (λ f. ends (Refused (fault.Cert f)))
        (certificates.refused_once (residues p.order) p.complex bytes r.0 s.0 r.1 s.1) ∙ sym s.2
    certificate_once bytes a b (inl r) (inr s) = absurd (certificates.not_refused_and_read (residues p.order) p.complex bytes r.0 s.0 r.1 s.1)
    certificate_once bytes a b (inr r) (inl s) = absurd (certificates.not_refused_and_read (residues p.order) p.complex bytes s.0 r.0 s.1 r.1)
    certificate_once bytes a b (inr r) (inr s) =
        let same = certificates.read_once (residues p.order) p.complex laws bytes r.0 s.0 r.1 s.1 in
        verdict_once (in_full p) r.0 a b r.2 (subst (λ (C : Certificate). VerdictIsDue (in_full p) C b) (sym same) s.2)

-- an analysis has the sets of the finest decomposition
many_and_few : (p : Problem) (count : ℕ) → HasTooManySets (residues p.order) p.complex p.part_of count → (C : Certificate) → IsAnalysis (in_full p) C
    → length C.morse ≤ 2000 → ⊥
many_and_few p count many C analysis few =
    let listed = analysis.graph in
    let e = ap length (finest_once p.complex p.part_of many.1.0 listed.sets many.1.1 listed.graph.sets) in
    omega (arith, e, many.0, many.1.2, listed.sets_count, few)

-- more sets than are printed, or the text of an analysis
analysis_alike : (p : Problem) → IsOnceBy AreAlike (AnalysisIsDue p)
analysis_alike p a b (inl r) (inl s) = inl (many_once p a b r s)
analysis_alike p a b (inl r) (inr s) = let text = s.1 in absurd (many_and_few p r.0 r.1 text.certificate text.analysis s.2)
analysis_alike p a b (inr r) (inl s) = let text = r.1 in absurd (many_and_few p s.0 s.1 text.certificate text.analysis r.2)
analysis_alike p a b (inr r) (inr s) = inr (inl (p, r, s))

-- more sets than are printed, or a summary
summary_alike : (p : Problem) → IsOnceBy AreAlike (SummaryIsDue p)
summary_alike p a b (inl r) (inl s) = inl (many_once p a b r s)
summary_alike p a b (inl r) (inr s) = absurd (many_and_few p r.0 r.1 s.0 s.1 s.2)
summary_alike p a b (inr r) (inl s) = absurd (many_and_few p s.0 s.1 r.0 r.1 r.2)
summary_alike p a b (inr r) (inr s) = inr (inr (p, r, s))

-- ---- all commands

due_on_once : (verb : Verb) (file_of : List ℕ → Option (List ℕ)) (arguments : List (List ℕ)) (p : Problem) → ¬ ((verb ≡ Analyze) ⊎ (verb ≡ Trial))
    → IsField (residues p.order) → IsSound p →
    IsOnce (IsDueOn verb (Some file_of) arguments p)
due_on_once Classes file_of arguments p other laws sound a b r s = classes_once_due p a b r s
due_on_once Field file_of arguments p other laws sound a b r s = field_once_due p a b r s
due_on_once Morse file_of arguments p other laws sound a b r s = morse_once_due p laws a b r s
due_on_once Sets file_of arguments p other laws sound a b r s = sets_once_due p laws a b r s
due_on_once Analyze file_of arguments p other laws sound a b r s = absurd (other (inl refl))
due_on_once Check file_of arguments p other laws sound a b r s = check_once_due file_of _ p sound.laws a b r s
due_on_once Trial file_of arguments p other laws sound a b r s = absurd (other (inr refl))

due_on_alike : (verb : Verb) (file_of : List ℕ → Option (List ℕ)) (arguments : List (List ℕ)) (p : Problem) → IsField (residues p.order) → IsSound p
    → IsOnceBy AreAlike (IsDueOn verb (Some file_of) arguments p)
due_on_alike Classes file_of arguments p laws sound a b r s = inl (classes_once_due p a b r s)
due_on_alike Field file_of arguments p laws sound a b r s = inl (field_once_due p a b r s)
due_on_alike Morse file_of arguments p laws sound a b r s = inl (morse_once_due p laws a b r s)
due_on_alike Sets file_of arguments p laws sound a b r s = inl (sets_once_due p laws a b r s)
due_on_alike Analyze file_of arguments p laws sound a b r s = analysis_alike p a b r s
due_on_alike Check file_of arguments p laws sound a b r s = inl (check_once_due file_of _ p sound.laws a b r s)
due_on_alike Trial file_of arguments p laws sound a b r s = summary_alike p a b r s

pub due_once : (file_of : List ℕ → Option (List ℕ)) (command : Option Command) → ¬ Analyzes command → (a b : Due) → IsDue (Some file_of) command a
    → IsDue (Some file_of) command b → a ≡ b
due_once file_of None other a b r s = r ∙ sym s
due_once file_of (Some command) other a b r s =
    on_argument_once (λ (x y : Due). x ≡ y) (λ x y e. e) file_of _ (IsDueOn command.verb (Some file_of) command.arguments)
    (λ p. due_on_once command.verb file_of command.arguments p other) (reads_file command.verb) a b r s

pub due_alike : (file_of : List ℕ → Option (List ℕ)) (command : Option Command) (a b : Due) → IsDue (Some file_of) command a → IsDue (Some file_of) command b
    → AreAlike a b
due_alike file_of None a b r s = inl (r ∙ sym s)
due_alike file_of (Some command) a b r s =
    let same : (x y : Due) → x ≡ y → AreAlike x y = λ x y e. inl e in
    on_argument_once AreAlike same file_of _ (IsDueOn command.verb (Some file_of) command.arguments) (due_on_alike command.verb file_of command.arguments)
    (reads_file command.verb) a b r s
