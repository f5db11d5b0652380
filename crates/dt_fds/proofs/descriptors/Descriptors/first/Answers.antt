use Rattle.std.proofs.Common.{◌≡◌, sym, subst}
use Rattle.dt_fds.specs.Descriptions.{readers, writers}
use Rattle.dt_fds.specs.Backs.{AllIn, AllEnds, descriptions_of}
use Rattle.dt_fds.proofs.Starting.{first_files-opened, nodes-first_files, reading-first_files, writing-first_files, in-first_files, ends-first_files}
use Rattle.dt_fds.proofs.descriptors.Descriptors.first.Goals as goal

pub returns-clause-files : goal.returns-clause-files
returns-clause-files c =
    first_files-opened c.args.pid _ _ _ _ _ _ _ c.in_ok-files.ensures c.first_desc.ensures c.in_ok-enter_lowest.ensures c.first_desc-2.ensures c.in_ok-enter_lowest-2.ensures c.first_desc-3.ensures c.in_ok-enter_lowest-3.ensures

pub returns-clause-nodes : goal.returns-clause-nodes
returns-clause-nodes c = λ n. subst (λ f. descriptions_of f n ≡ 0) (sym (returns-clause-files c)) (nodes-first_files c.args.pid n)

pub returns-clause-all_in : goal.returns-clause-all_in
returns-clause-all_in c = λ v. subst (AllIn v) (sym (returns-clause-files c)) (in-first_files v c.args.pid)

pub returns-clause-all_ends : goal.returns-clause-all_ends
returns-clause-all_ends c = λ pipes. subst (AllEnds pipes) (sym (returns-clause-files c)) (ends-first_files pipes c.args.pid)

pub returns-clause-reading : goal.returns-clause-reading
returns-clause-reading c = λ q. subst (λ f. readers f q ≡ 0) (sym (returns-clause-files c)) (reading-first_files c.args.pid q)

pub returns-clause-writing : goal.returns-clause-writing
returns-clause-writing c = λ q. subst (λ f. writers f q ≡ 0) (sym (returns-clause-files c)) (writing-first_files c.args.pid q)
