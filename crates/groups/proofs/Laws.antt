-- What holds of groups, of forms and of the four calls (specs/Laws.antt): `laws`. Assumes nothing.
use Rattle.groups.specs.Laws.{GroupLaws, FormLaws, SizeLaws, CallLaws, Laws}
use Rattle.groups.proofs.Glue.{slots_back, are_longest}
use Rattle.groups.proofs.GroupTests.{are_groups, groups_back}
use Rattle.groups.proofs.FormInverse.{written_octets, written_form, read_back, bytes_back, form_exactly}
use Rattle.groups.proofs.FormPages.{page_exactly, one_form}
use Rattle.groups.proofs.FormSizes.{longest_is, no_longer_than_alone, no_longer, one_as_long}
use Rattle.groups.proofs.FormCalls.{ungroup_grouped, group_ungrouped, insert_agrees, remove_agrees, inserted, removed}

groups : GroupLaws
groups = record { slots_back = slots_back; are_longest = are_longest; are_groups = are_groups; groups_back = groups_back }

forms : FormLaws
forms = record {
  written_octets = written_octets;
  written_form = written_form;
  read_back = read_back;
  bytes_back = bytes_back;
  form_exactly = form_exactly;
  page_exactly = page_exactly;
  one_form = one_form;
}

sizes : SizeLaws
sizes = record { longest_is = longest_is; no_longer_than_alone = no_longer_than_alone; no_longer = no_longer; one_as_long = one_as_long }

calls : CallLaws
calls = record {
  ungroup_grouped = ungroup_grouped;
  group_ungrouped = group_ungrouped;
  insert_agrees = insert_agrees;
  remove_agrees = remove_agrees;
  inserted = inserted;
  removed = removed;
}

pub laws : Laws
laws = record { groups = groups; forms = forms; sizes = sizes; calls = calls }
