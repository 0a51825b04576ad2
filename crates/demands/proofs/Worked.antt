-- The marked cases of the worked card, by computation on the definitions: the line below names every definition that is computed.
-- Assumes nothing.
use mathlib.Core.Path.{refl}
use Rattle.octets.specs.Bytes as octets-bytes
use Rattle.octets.specs.Choice as octets-choice
use Rattle.card.specs.Records as card-records
use Rattle.card.specs.Row as card-row
use Rattle.card.specs.Sound as card-sound
use Rattle.card.specs.Tree as card-tree
use Rattle.tlv.specs.Lengths as tlv-lengths
use Rattle.tlv.specs.Templates as tlv-templates
use Rattle.journal.specs.Changes as journal-changes
use Rattle.journal.specs.Entries as journal-entries
use Rattle.journal.specs.Sound as journal-sound
use Rattle.session.specs.Fcp as session-fcp
use Rattle.session.specs.Select as session-select
use Rattle.session.specs.Session as session-session
use Rattle.decide.specs.Order as decide-order
use Rattle.command.specs.Checks as command-checks
use Rattle.decide.specs.Fails as decide-fails
use Rattle.step.specs.Steps as step-steps
use Rattle.decide.specs.Decisions as decide-decisions
use Rattle.plan.specs.Files as plan-files
use Rattle.command.specs.Instructions as command-instructions
use Rattle.plan.specs.Ends as plan-ends
use Rattle.command.specs.Outcomes as command-outcomes
use Rattle.plan.specs.Plans as plan-plans
use Rattle.plan.specs.Sums as plan-sums
use Rattle.step.specs.Limits as step-limits
use Rattle.compact.specs.Compact as compact-compact
use Rattle.expanded.specs.Capdu as expanded-capdu
use Rattle.expanded.specs.Expanded as expanded-expanded
use Rattle.engine.specs.Calls as engine-calls
use Rattle.engine.specs.Hex as engine-hex
use Rattle.engine.specs.Numbers as engine-numbers
use Rattle.engine.specs.Worked as engine-worked
use Rattle.engine.specs.Worked.{Marked}

pub marked : Marked
unfolding octets-bytes.num_at octets-bytes.bytes2 octets-bytes.value octets-bytes.bytes_of octets-bytes.overwrite octets-bytes.all_zero octets-bytes.same octets-bytes.starts_with octets-bytes.contains octets-choice.pick octets-choice.all_below card-records.cyclic_place card-records.record_place card-records.record_offset card-records.oldest_place card-row.entry card-row.row card-row.row_of card-sound.name_sound card-sound.newest_sound card-sound.records_sound card-sound.file_sound card-sound.own_sound card-sound.entry_sound card-sound.pair_sound card-sound.entries_sound card-sound.pairs_sound card-sound.sound_by card-sound.lengths_sound card-sound.sound_table card-tree.first_from card-tree.child_with card-tree.child card-tree.child_df card-tree.root_in card-tree.root_of tlv-lengths.short_length tlv-lengths.long_length tlv-lengths.length_at tlv-lengths.code_of tlv-lengths.length_bytes tlv-templates.definite tlv-templates.indefinite tlv-templates.template_of tlv-templates.is_capdu_tag tlv-templates.value_at tlv-templates.item_at journal-changes.memory_of journal-changes.with_journal journal-changes.with_memory journal-changes.pushed journal-changes.marked journal-changes.kind_for journal-changes.entry_for journal-changes.write journal-changes.perform journal-changes.cost journal-changes.memory_for journal-changes.restore_one journal-changes.restore journal-changes.since_mark journal-changes.behind_mark journal-changes.bytes_taken journal-changes.cut_back journal-changes.taken_back journal-changes.confirmed journal-entries.head_bytes journal-entries.used_bytes journal-entries.scripts_on_trial journal-entries.flag_of journal-entries.room journal-entries.tail journal-entries.encode journal-entries.mark journal-entries.tail_bytes journal-entries.tail_in journal-entries.tail_at journal-entries.formed journal-entries.old_place journal-entries.entry_at journal-entries.readable journal-entries.no_entry journal-entries.entries_back journal-entries.entries_of journal-sound.head_sound journal-sound.mark_fits journal-sound.table_byte_sound journal-sound.table_place_sound journal-sound.form_sound journal-sound.entry_sound journal-sound.all_sound journal-sound.last_is_mark journal-sound.oldest_is_mark journal-sound.marks journal-sound.entries_sound journal-sound.sound_journal journal-sound.sound_card session-fcp.descriptor session-fcp.fcp82 session-fcp.fcp83 session-fcp.fcp8a session-fcp.fcp80 session-fcp.fcp_body session-fcp.fcp session-select.if_named session-select.above session-select.by_identifier session-select.by_path session-select.find session-select.row_found session-session.at_record session-session.moved session-session.selected session-session.waits session-session.start_standing session-session.start_waiting decide-order.formal_checks decide-order.select_checks decide-order.response_checks decide-order.bound_checks decide-order.file_checks decide-order.later_checks decide-order.order command-checks.check_word decide-fails.wrong_case decide-fails.parameters_fit decide-fails.path_length_fits decide-fails.is_found decide-fails.kind_fits decide-fails.no_record decide-fails.length_fits plan-files.sum_too_long decide-fails.journal_full decide-fails.fails decide-fails.first_failing decide-decisions.situation decide-decisions.decided decide-decisions.planned step-steps.carried_out step-steps.started step-steps.stepped plan-files.file_at plan-files.next_record plan-files.previous_record plan-files.absolute_record plan-files.named_record plan-files.number_after plan-files.has_record plan-files.record_bytes plan-files.noted plan-files.next_searched plan-files.to_search plan-files.found_among plan-files.found_records plan-files.sum plan-files.write_in plan-files.new_record command-instructions.class_of command-instructions.case_of command-instructions.never_bit command-outcomes.data_of plan-ends.failed plan-ends.done plan-ends.handed plan-ends.produced plan-plans.select_word plan-plans.select_entry plan-plans.select plan-plans.offset_of plan-plans.most_read plan-plans.read_binary plan-plans.update_binary plan-plans.named_by plan-plans.at_named plan-plans.read_record plan-plans.update_record plan-plans.searched plan-plans.search plan-plans.increase plan-plans.switch plan-plans.get_response plan-plans.done_by plan-sums.from_right step-limits.rapdu_size step-limits.limited compact-compact.compact_case compact-compact.data_behind compact-compact.broken compact-compact.whole_at compact-compact.headed_at compact-compact.read_at compact-compact.place_after compact-compact.run_from compact-compact.run compact-compact.answer compact-compact.step_read expanded-capdu.case_by_size expanded-capdu.carried expanded-capdu.capdu_command expanded-expanded.rapdu expanded-expanded.bad_format expanded-expanded.progress_of expanded-expanded.answered expanded-expanded.gathered_in expanded-expanded.last_rapdu expanded-expanded.step_capdu expanded-expanded.step_bad expanded-expanded.run_from expanded-expanded.begun expanded-expanded.run expanded-expanded.count_bytes expanded-expanded.definite_body expanded-expanded.definite_answer expanded-expanded.indefinite_answer expanded-expanded.answer_bytes expanded-expanded.answer engine-calls.accepted engine-calls.run_value engine-calls.unless_refused engine-calls.run_script engine-calls.run engine-calls.take_back engine-calls.confirm engine-hex.digit engine-hex.hex engine-numbers.detected engine-numbers.format_of engine-numbers.application_fits engine-numbers.arguments_fit engine-numbers.script_fits engine-numbers.least_response engine-numbers.is_missing engine-numbers.template_fits engine-numbers.first_given engine-numbers.not_sound engine-numbers.run_refusals engine-numbers.take_back_refusals engine-numbers.confirm_refusals engine-worked.worked_table engine-worked.worked engine-worked.run_on engine-worked.answer_of engine-worked.compact_answer engine-worked.expanded_answer
marked =
    record {
      select = refl;
      select_missing = refl;
      read_no_file = refl;
      too_few = refl;
      update = refl;
      update_used = refl;
      update_taken_back = refl;
      read = refl;
      increase = refl;
      increase_newest = refl;
      increase_used = refl;
      increase_waits = refl;
      fcp = refl;
      other_application = refl;
      empty_template = refl;
      bad_tag = refl;
      bad_length = refl;
    }
