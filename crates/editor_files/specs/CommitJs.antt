-- The bytes of client/commit.js. tools/client --write wrote this.
use Rattle.std.specs.Prelude.{ℕ, List, codes}

-- the file `commit.js`
unfoldable pub commit_js : List ℕ
commit_js = codes "// Adds a sentence at the end of an article by a session, so that nobody adds to an article without having seen what others wrote.\nimport { Trouble, ask, tellLast } from './api.js';\nimport { compare, sameSentences, whatChanged } from './changes.js';\nimport { textOf } from './lexicon.js';\nimport { complain, explained, wordLink } from './page.js';\n\nconst FULL = 'All places for people who write are taken. The sentence can be added without one: the article is read first, and nothing is sent if it isn\\'t what is shown. A change between the two isn\\'t noticed.';\n\n// A task has the article, what is shown of it, the tokens, and what to call: `done` and `moved` with a new reading, `offer`\n// with a text, a label and an action.\nexport async function append(task) {\n    const session = await begun(task);\n    if (session === null) { return; }\n    const held = { session, isOurs: true };\n    const leave = () => tellLast('drop', { session });\n    window.addEventListener('pagehide', leave);\n    try {\n        await checked(task, held, () => typed(task, held));\n    } catch (error) {\n        lose(held, error);\n        throw error;\n    } finally {\n        window.removeEventListener('pagehide', leave);\n        if (held.isOurs) { await ask('drop', { session }).catch(() => {}); }\n    }\n}\n\nfunction begun(task) {\n    const add = () => ask('add', { article: task.article, text: textOf(task.tokens) });\n    return ask('open', { article: task.article }).then(({ session }) => session).catch((error) => {\n        if (!error.is || !error.is('Full') || error.reply.which !== 'sessions') { throw error; }\n        task.offer([FULL], 'Add it all the same', () => checked(task, {}, add));\n        return null;\n    });\n}\n\n// After a failure of the network the session isn't touched again, since numbers begin anew when the program does.\nfunction lose(held, error) {\n    if (!(error instanceof Trouble) || error.cause !== 'refused' || error.is('NoSession')) { held.isOurs = false; }\n}\n\n// Does it where the article is the one that is shown.\nasync function checked(task, held, action) {\n    const before = await ask('read', { article: task.article });\n    if (hasMoved(task, before)) { return; }\n    try {\n        await action();\n    } catch (error) {\n        lose(held, error);\n        if (error.is && error.is('Stale') && hasMoved(task, await ask('read', { article: task.article }))) { return; }\n        if (!error.uncertain || error.request === 'type') { throw error; }\n        complain(explained(error));\n        const now = await ask('read', { article: task.article });\n        compare(before, now, false);\n        task.moved(now);\n        return;\n    }\n    const now = await ask('read', { article: task.article });\n    compare(before, now, true);\n    task.done(now);\n}\n\nfunction hasMoved(task, now) {\n    if (now.revision === task.shown.revision && sameSentences(now.sentences, task.shown.sentences)) { return false; }\n    task.offer(['Somebody else changed the article since it was shown here. Nothing was sent.', whatChanged(task.shown, now)],\n        'Go on with my sentence', () => append({ ...task, shown: now }));\n    task.moved(now);\n    return true;\n}\n\nasync function typed(task, { session }) {\n    for (const [place, text] of task.tokens.entries()) {\n        const reply = await ask('type', { session, text });\n        if (reply.tokens !== place + 1) { throw new Trouble('mixed', 'read', {}); }\n    }\n    const reply = await ask('commit', { session });\n    if (reply.article !== task.article) {\n        complain('The wiki was started again meanwhile, and added the sentence to another article: ', wordLink(reply.article), '.');\n    }\n}\n"
