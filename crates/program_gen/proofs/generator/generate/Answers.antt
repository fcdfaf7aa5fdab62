-- What holds of the classes of a generated program.
use Rattle.std.specs.List.{AllByRecursion}
use Rattle.program_gen.specs.Generated.{AreNamed, HasOwnPool, IsShortFile}
use Rattle.program_gen.specs.Members.{HaveCodes, HaveMembers}
use Rattle.program_gen.specs.Programs.{program_rows}
use Rattle.std.proofs.Common.{◌≡◌, ◌+◌, length}
use Rattle.program_gen.proofs.DistinctNames.{own-names}
use Rattle.program_gen.proofs.GeneratedFacts.{all-of, generated-count, generated-short, generated-named, generated-members, generated-codes, generated-pools, rows-fit}
use Rattle.program_gen.proofs.generator.generate.Goals as goal

pub returns-clause-count : goal.returns-clause-count
returns-clause-count c =
    all-of (λ v. v.items) (λ classes. length classes ≡ c.args.size + 1) c.args.seed c.args.size (generated-count c.args.seed c.args.size) c.classes_of.result c.classes_of.ensures.classes

pub returns-clause-short : goal.returns-clause-short
returns-clause-short c =
    all-of (λ v. v.items) (AllByRecursion IsShortFile) c.args.seed c.args.size (generated-short c.args.seed c.args.size c.requires.some c.requires.most) c.classes_of.result c.classes_of.ensures.classes

pub returns-clause-names : goal.returns-clause-names
returns-clause-names c =
    all-of (λ v. v.items) (AreNamed (program_rows c.args.seed c.args.size)) c.args.seed c.args.size (generated-named c.args.seed c.args.size c.requires.some c.requires.most) c.classes_of.result
    c.classes_of.ensures.classes

pub returns-clause-members : goal.returns-clause-members
returns-clause-members c =
    all-of (λ v. v.items) (HaveMembers (program_rows c.args.seed c.args.size)) c.args.seed c.args.size (generated-members c.args.seed c.args.size c.requires.some c.requires.most)
    c.classes_of.result c.classes_of.ensures.classes

pub returns-clause-codes : goal.returns-clause-codes
returns-clause-codes c =
    all-of (λ v. v.items) (HaveCodes (program_rows c.args.seed c.args.size)) c.args.seed c.args.size (generated-codes c.args.seed c.args.size c.requires.some c.requires.most) c.classes_of.result
    c.classes_of.ensures.classes

pub returns-clause-own_pools : goal.returns-clause-own_pools
returns-clause-own_pools c =
    all-of (λ v. v.items) (AllByRecursion HasOwnPool) c.args.seed c.args.size (generated-pools c.args.seed c.args.size c.requires.some c.requires.most) c.classes_of.result c.classes_of.ensures.classes

pub returns-clause-fits : goal.returns-clause-fits
returns-clause-fits c = rows-fit c.args.seed c.args.size c.requires.some c.requires.most

pub returns-clause-own_names : goal.returns-clause-own_names
returns-clause-own_names c = own-names c.args.seed c.args.size c.requires.most
