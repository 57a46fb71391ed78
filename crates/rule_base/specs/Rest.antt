-- What an iterator of instances has left.
use Rattle.std.specs.Prelude.{List, ℕ}
use Rattle.rule_base.specs.declared.instances.Instances.{Instances}
use Rattle.rule_base.specs.declared.instances.Instance.{Instance}
use Rattle.rule_base.specs.Instances.{instances_left, work_left}

abbrev pub rest : Instances → List Instance
rest s = instances_left s.question s.table.rows.now s.place s.chosen s.next

-- how many steps are left at most
abbrev pub work : Instances → ℕ
work s = work_left s.question s.table.rows.now s.place s.chosen s.next
